-- Rules: "Writer", rule "Room". The packets of a cutting, put into the output if it has room for
-- them: refusal 10.
use Rattle.std.specs.Prelude.{ℕ, cond, List, length, ltb, Result, Ok, Err}
use Rattle.std.proofs.lemmas.List.Edits.{sets}
use Rattle.refusal.specs.declared.Refusal.{Refusal}
use Rattle.octets.specs.Output.{OutputAfter, output_after}
use Rattle.cutting.specs.Cutting.{Cutting}
use Rattle.cutting.specs.Plan.{total_octets}
use Rattle.blocks.specs.Packets.{encode_packets}
use Rattle.plan_size.specs.declared.Total.{Total}
use Rattle.refusal.specs.declared.Refusal.TheVariants.{OutputTooShort}
use Rattle.packet.specs.Packet as packet

-- a refused call leaves the output as it was
abbrev pub writing_refused : Refusal → List ℕ → OutputAfter (Result Total Refusal)
writing_refused e out = output_after (Err e) out

-- the packets ps of a cutting c, if the output has room for them
unfoldable pub put_packets : Cutting → List packet.Packet → List ℕ → OutputAfter (Result Total Refusal)
put_packets c ps out =
    cond (ltb (length out) (total_octets c)) (writing_refused OutputTooShort out)
    (output_after (Ok (record { packets = length c; octets = total_octets c })) (sets out 0 (encode_packets ps)))
