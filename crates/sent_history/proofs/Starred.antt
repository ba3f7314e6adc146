-- The cases at the edges that are proved of sent packets, computed: one statement over the list. Assumes nothing.
use Prim.Native.Nat.{ℕ, ◌^◌}
use mathlib.Core.Path.{◌≡◌, refl, ap, ◌∙◌}
use mathlib.Core.Bool.{Bool, true, false, ◌&&◌, false≢true}
use mathlib.Core.List.{List, [], ◌∷◌, map}
use borrow.Author.Tests.{ltb-true}
use lib.Dec.{ltb}
use Rattle.lists.specs.All.{All}
use Rattle.lists.specs.First.{first_from}
use Rattle.octets.specs.Octets.{be16, be32}
use Rattle.metric.specs.Metric.{decode_of}
use Rattle.window.specs.Number.{sequence_numbers}
use Rattle.packet.specs.Packet.{encode_metrics, filler, encode_block, encode_blocks, encode_packet}
use Rattle.packet_header.specs.Header.{start_of}
use Rattle.walk.specs.Walk.{filler_at, step_at, walk, walk_of}
use Rattle.reader.specs.Reading.{metrics_at_of, decode_packet}
use Rattle.streams.specs.Full.{full_of}
use Rattle.streams.specs.Model.{noted_at, later_at, vacant}
use Rattle.sent_block.specs.Reports.{reports_from, reports_of}
use Rattle.std.specs.Prelude.{Result}
use Rattle.sent_word.specs.declared.Status.{Status}
use Rattle.refusal.specs.declared.Refusal.{Refusal}
use Rattle.sent_history.specs.Calls.{Call, register, take_in, CallInRange}
use Rattle.sent_history.specs.Meaning.{events_of}
use Rattle.sent_history.specs.Model.{model_run, note_all, shown_at, model_asked}
use Rattle.sent_history.specs.Starred.{Case, ssrc, CaseHolds, of_reports, of_registrations, of_the_window, cases}
use Rattle.sent_history.proofs.ByHistory.{same_status}

-- ---- the calls are in range, by a test that computes
in_range : List Call → Bool
in_range [] = true
in_range (register x number ∷ cs) = ltb x (2 ^ 32) && (ltb number sequence_numbers && in_range cs)
in_range (take_in s ∷ cs) = in_range cs

both : (a b : Bool) → (a && b) ≡ true → (a ≡ true) × (b ≡ true)
both true b e = (refl, e)
both false b e = absurd (false≢true e)

all_in_range : (cs : List Call) → in_range cs ≡ true → All CallInRange cs
unfolding in_range
all_in_range [] e = tt
all_in_range (register x number ∷ cs) e =
    let a = both (ltb x (2 ^ 32)) (ltb number sequence_numbers && in_range cs) e in
    let b = both (ltb number sequence_numbers) (in_range cs) a.1 in
    ((ltb-true x (2 ^ 32) a.0, ltb-true number sequence_numbers b.0), all_in_range cs b.1)
all_in_range (take_in s ∷ cs) e = (tt, all_in_range cs e)

-- ---- what the machine says is what every fresh store says
test_of : Case → Bool
test_of c = in_range (register ssrc c.number ∷ c.calls)

says : Case → Result Status Refusal
says c = model_asked (model_run (vacant 1) c.calls) ssrc c.number

holds : (c : Case) → test_of c ≡ true → says c ≡ c.answer → CaseHolds c
unfolding test_of says
holds c r e st new one =
    let range = all_in_range (register ssrc c.number ∷ c.calls) r in
    same_status st new c.calls range.1 ssrc c.number range.0.1
    ∙ ap (λ (n : ℕ). model_asked (model_run (vacant n) c.calls) ssrc c.number) one
    ∙ e

-- ---- every case at once
all_hold : (cs : List Case) → map test_of cs ≡ map (λ (c : Case). true) cs → map says cs ≡ map (λ (c : Case). c.answer) cs → All CaseHolds cs
all_hold [] r e = tt
all_hold (c ∷ cs) r e = (holds c (cc) (cc), all_hold cs (cc) (cc))

in_range_lem : map test_of cases ≡ map (λ (c : Case). true) cases
unfolding cases of_reports of_registrations of_the_window test_of in_range
in_range_lem = refl

computed : map says cases ≡ map (λ (c : Case). c.answer) cases
unfolding cases of_reports of_registrations of_the_window says first_from be16 be32 decode_of encode_metrics filler encode_block encode_blocks encode_packet
    start_of filler_at step_at walk walk_of metrics_at_of decode_packet full_of noted_at later_at reports_from reports_of events_of note_all shown_at
computed = refl

pub starred : All CaseHolds cases
starred = all_hold cases in_range_lem computed
