-- Each refusal is given exactly when the rules say, and a refused call changes nothing. Assumes nothing.
use mathlib.Core.Path.{◌≡◌, refl, sym, ap, ◌∙◌, subst}
use mathlib.Core.Logic.{inl, inr, ◌↔◌, ⊎_elim}
use mathlib.Core.List.{List, [], ◌∷◌, map}
use Prim.Native.Nat.{ℕ, ◌≤◌, ◌<◌}
use native.Mathlib.Omega.{arith}
use lib.ListN.{length, length-append}
use lib.Seq.{sets}
use borrow.Author.Tests.{lt-ltb, le-ltb}
use Rattle.lists.proofs.Cases.{never, split_le}
use Rattle.refusal.specs.declared.Refusal.{Refusal}
use Rattle.octets.specs.Output.{OutputAfter, output_after}
use Rattle.places.specs.Shape.{Shaped}
use Rattle.places.proofs.Shape.{Shape, right, wrong, shape_of, shaped_is, misshapen_is}
use Rattle.packet.specs.Packet.{encode_packet}
use Rattle.cutting.specs.Cutting.{Cutting, stream_of}
use Rattle.cutting.specs.Limits.{least_limit, most_limit, most_requests}
use Rattle.cutting.specs.Plan.{packets_from, plan, total_octets}
use Rattle.cutting.specs.declared.Request.{Request}
use Rattle.blocks.specs.Packets.{store_metric, report_packet, encode_packets, packets_for}
use Rattle.sound_writer.specs.Put.{writing_refused, put_packets}
use Rattle.writer.specs.Written.{written}
use Rattle.std.specs.Prelude.{Result, Ok, Err}
use Rattle.plan_size.specs.declared.Total.{Total}
use Rattle.std.proofs.lemmas.Result.{IfOk-at_ok}
use Rattle.packets.proofs.Packets.{length_report}
use Rattle.writer_laws.proofs.Calls.{bad_store_lem, limit_low, limit_high, too_many, unsound, sound}
use Rattle.writer_laws.specs.Refused.{AllSound, none, Proper, WritingGiven, bad_store, bad_limit, too_many_of, in_request, too_short_of}
use Rattle.writer_laws.proofs.Requests.{sound_checked, fault_checked, checked_cases}
use Rattle.refusal.specs.declared.Refusal.TheVariants.{OutputTooShort}

-- the octets of packets back to back
length_packets : (metric : ℕ → ℕ → ℕ) (rs : List Request) (sender rts : ℕ) (c : Cutting)
    → length (encode_packets (map (report_packet metric rs sender rts) c)) ≡ total_octets c
unfolding encode_packets
length_packets metric rs sender rts [] = refl
length_packets metric rs sender rts (p ∷ c) =
    length-append (encode_packet (report_packet metric rs sender rts p)) (encode_packets (map (report_packet metric rs sender rts) c))
    ∙ omega (arith, length_report metric rs sender rts p, length_packets metric rs sender rts c)

module _ (places cells : List ℕ) (sender rts limit n : ℕ) (rs : List Request) (out : List ℕ) where
  abbrev pub octets : List ℕ
  octets = encode_packets (packets_for places cells sender rts limit rs)

  pub length_octets : length octets ≡ total_octets (plan limit rs)
  length_octets = length_packets (λ i. store_metric places cells rts (stream_of rs i)) rs sender rts (plan limit rs)

  abbrev all : OutputAfter (Result Total Refusal)
  all = written places cells sender rts limit n rs out

  abbrev Here : Type 0
  Here = Proper places cells sender rts limit n rs out

  abbrev full : OutputAfter (Result Total Refusal)
  full = output_after (Ok (record { packets = length (plan limit rs); octets = total_octets (plan limit rs) })) (sets out 0 octets)

  -- ---- the call, case by case

  put_short : length out < length octets → put_packets (plan limit rs) (packets_for places cells sender rts limit rs) out ≡ writing_refused OutputTooShort out
  unfolding put_packets
  put_short h = rw (lt-ltb (length out) (total_octets (plan limit rs)) (omega (arith, length_octets)))

  put_full : length octets ≤ length out → put_packets (plan limit rs) (packets_for places cells sender rts limit rs) out ≡ full
  unfolding put_packets
  put_full h = rw (le-ltb (length out) (total_octets (plan limit rs)) (omega (arith, length_octets)))

  sound_call : Here → AllSound places [] rs → all ≡ put_packets (plan limit rs) (packets_for places cells sender rts limit rs) out
  sound_call h a =
      sym (sound places cells sender rts limit n rs out (shaped_is places cells h.store) h.least
      h.most h.few _ refl _ (sound_checked places [] rs a) refl)

  -- a refusal that is given is answered, and nothing changes
  pub given_refused : (e : Refusal) → WritingGiven places cells sender rts limit n rs out e → all ≡ writing_refused e out
  given_refused e (bad_store f) = sym (bad_store_lem places cells sender rts limit n rs out (misshapen_is places cells f))
  given_refused e (bad_limit s l) =
      let t = shaped_is places cells s in
      ⊎_elim
      (λ h. sym (limit_low places cells sender rts limit n rs out t h))
      (λ h. sym (limit_high places cells sender rts limit n rs out t (omega arith) h)) l
  given_refused e (too_many_of s l m h) = sym (too_many places cells sender rts limit n rs out (shaped_is places cells s) l m h)
  given_refused e (in_request h f) =
      sym (unsound places cells sender rts limit n rs out (shaped_is places cells h.store) h.least
      h.most h.few _ refl e (fault_checked places [] rs e f))
  given_refused e (too_short_of h a l) = sound_call h a ∙ put_short l

  -- ---- why the call answers what it answers

  pub record WritingAccepted : Type 0 where
    pub proper : Here
    pub requests : AllSound places [] rs
    pub room : length octets ≤ length out

  pub accepted_written : WritingAccepted → all ≡ full
  accepted_written a = sound_call a.proper a.requests ∙ put_full a.room

  -- To show P: a refusal is given, or the call is accepted.
  pub cases : {P : Type 0} → ((e : Refusal) → WritingGiven places cells sender rts limit n rs out e → P) → (WritingAccepted → P) → P
  cases {P} f g = by_shape (shape_of places cells)
    where
      proper : Shaped places cells → least_limit ≤ limit → limit ≤ most_limit → n ≤ most_requests → P
      proper s l m k =
          let h : Here = record { store = s; least = l; most = m; few = k } in
          checked_cases places [] rs (λ v. P)
          (λ a. split_le (length octets) (length out) (λ r. g (record { proper = h; requests = a; room = r })) (λ r. f _ (too_short_of h a r)))
          (λ e x. f e (in_request h x))

      by_shape : Shape places cells → P
      by_shape (wrong m) = f _ (bad_store m)
      by_shape (right s) =
          split_le least_limit limit
          (λ l.
          split_le limit most_limit
          (λ m. split_le n most_requests (λ k. proper s l m k) (λ k. f _ (too_many_of s l m k)))
          (λ m. f _ (bad_limit s (inr m))))
          (λ l. f _ (bad_limit s (inl l)))

  -- each refusal is answered exactly when it is given
  pub refusals : (e : Refusal) → (all.answer ≡ Err e) ↔ WritingGiven places cells sender rts limit n rs out e
  refusals e = (there, λ g. ap (λ (o : OutputAfter (Result Total Refusal)). o.answer) (given_refused e g))
    where
      there : all.answer ≡ Err e → WritingGiven places cells sender rts limit n rs out e
      there q =
          cases
          (λ d g.
          let w = ap (λ (o : OutputAfter (Result Total Refusal)). o.answer) (given_refused d g) in
          let z : d ≡ e = cc in
          subst (WritingGiven places cells sender rts limit n rs out) z g)
          (λ a. let w = ap (λ (o : OutputAfter (Result Total Refusal)). o.answer) (accepted_written a) in never (cc))

  -- a refused call leaves the output as it was
  pub unchanged : (e : Refusal) → all.answer ≡ Err e → all.output ≡ out
  unchanged e q = ap (λ (o : OutputAfter (Result Total Refusal)). o.output) (given_refused e ((refusals e).0 q))

  -- and what it answers where it does not refuse
  pub accepted : (p o : ℕ) → all.answer ≡ Ok (record { packets = p; octets = o }) → WritingAccepted × (p ≡ length (plan limit rs)) × (o ≡ total_octets (plan limit rs))
  accepted p o q =
      cases
      (λ e g. let w = ap (λ (x : OutputAfter (Result Total Refusal)). x.answer) (given_refused e g) in never (cc))
      (λ a.
      let w = ap (λ (x : OutputAfter (Result Total Refusal)). x.answer) (accepted_written a) in
      let told =
      IfOk-at_ok (λ (t : Total). (t.packets ≡ length (plan limit rs)) × (t.octets ≡ total_octets (plan limit rs))) (sym w ∙ q) (refl, refl)
      in (a, told.0, told.1))

-- rule "No request": 0 packets and 0 octets
pub no_request_lem : (places cells : List ℕ) (sender rts limit : ℕ) (out : List ℕ) → Proper places cells sender rts limit 0 [] out
    → written places cells sender rts limit 0 [] out ≡ output_after (Ok (record { packets = 0; octets = 0 })) out
unfolding packets_from encode_packets
no_request_lem places cells sender rts limit out h =
    accepted_written places cells sender rts limit 0 [] out (record { proper = h; requests = none; room = omega arith })
