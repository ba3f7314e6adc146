-- Rules: "Writer", "Order of refusals". The answer and the output, for every input and any lent
-- store content. Refusals 4, 6, 7; for each request in turn 5, 8, 9; and last 10.
use Rattle.std.specs.Prelude.{ℕ, cond, List, [], ltb, Result, Ok, Err}
use Rattle.octets.specs.Output.{OutputAfter}
use Rattle.places.specs.Shape.{shaped}
use Rattle.cutting.specs.Limits.{least_limit, most_limit, most_requests}
use Rattle.cutting.specs.Plan.{plan}
use Rattle.cutting.specs.declared.Request.{Request}
use Rattle.refusal.specs.declared.Refusal.{Refusal}
use Rattle.plan_size.specs.declared.Total.{Total}
use Rattle.requests.specs.Requests.{checked}
use Rattle.blocks.specs.Packets.{packets_for}
use Rattle.sound_writer.specs.Put.{writing_refused, put_packets}
use Rattle.refusal.specs.declared.Refusal.TheVariants.{BadStore, BadLimit, TooManyRequests}

-- o, if the verdict on the requests is that all are sound
abbrev pub if_all_sound : Result (Unit {0}) Refusal → OutputAfter (Result Total Refusal) → List ℕ → OutputAfter (Result Total Refusal)
if_all_sound (Ok tt) o out = o
if_all_sound (Err e) o out = writing_refused e out

-- a report on n requests rs
unfoldable pub written : List ℕ → List ℕ → ℕ → ℕ → ℕ → ℕ → List Request → List ℕ → OutputAfter (Result Total Refusal)
written places cells sender rts limit n rs out =
    cond (shaped places cells)
    (cond (ltb limit least_limit) (writing_refused BadLimit out)
    (cond (ltb most_limit limit) (writing_refused BadLimit out)
    (cond (ltb most_requests n) (writing_refused TooManyRequests out)
    (if_all_sound (checked places [] rs) (put_packets (plan limit rs) (packets_for places cells sender rts limit rs) out) out))))
    (writing_refused BadStore out)
