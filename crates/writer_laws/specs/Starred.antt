-- Rules: "Cases at the edges". Those that are proved of the writer: a range of five numbers and one
-- of three, at three limits.
use Rattle.std.specs.Prelude.{List, [], ◌∷◌, map, ℕ, ◌*◌, length, take, replicate, Result, Ok, Err}
use Rattle.octets.specs.Output.{OutputAfter}
use Rattle.ring.specs.Ring.{cells_of_a_place}
use Rattle.places.specs.Place.{place_word}
use Rattle.cutting.specs.declared.Request.{Request}
use Rattle.plan_size.specs.declared.Total.{Total}
use Rattle.refusal.specs.declared.Refusal.{Refusal}
use Rattle.writer.specs.Written.{written}
use Rattle.writer_laws.specs.Read.{packets_in}

-- 65534 to 2 of one stream, and 0 to 2 of another; both have 2 as their highest number
unfoldable pub five_three : List Request
five_three = record { ssrc = 7; begin = 65534; count = 5 } ∷ record { ssrc = 8; begin = 0; count = 3 } ∷ []

-- the call on both, at a limit and with so many octets of output; every cell is empty
unfoldable pub call : ℕ → ℕ → OutputAfter (Result Total Refusal)
call limit room =
    written (place_word 7 2 ∷ place_word 8 2 ∷ []) (replicate (2 * cells_of_a_place) 0) 1 2 limit 2 five_three (replicate room 255)

-- the octets of each packet that walking the length fields finds
unfoldable pub sizes : Result Total Refusal → List ℕ → List ℕ
sizes (Ok t) output = map length (packets_in (take t.octets output))
sizes (Err e) output = []

-- the answer and the packets, at a limit and with so many octets of output
unfoldable pub result : ℕ × ℕ → (Result Total Refusal) × List ℕ
result x = ((call x.0 x.1).answer, sizes (call x.0 x.1).answer (call x.0 x.1).output)
