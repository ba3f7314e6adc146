-- `written`, by the check of the call and that of the requests. Assumes nothing.
use Rattle.std.proofs.Common.{◌≡◌, ℕ, Bool, true, false, cond, ltb, List, [], refl}
use Rattle.places.specs.Shape.{shaped}
use Rattle.octets.specs.Output.{OutputAfter}
use Rattle.cutting.specs.Limits.{least_limit, most_limit, most_requests}
use Rattle.cutting.specs.Plan.{plan}
use Rattle.cutting.specs.declared.Request.{Request}
use Rattle.std.specs.Prelude.{Result, Ok, Err}
use Rattle.refusal.specs.declared.Refusal.{Refusal}
use Rattle.plan_size.specs.declared.Total.{Total}
use Rattle.requests.specs.Requests.{checked}
use Rattle.blocks.specs.Packets.{packets_for}
use Rattle.sound_writer.specs.Put.{writing_refused, put_packets}
use Rattle.writer.specs.Steps.{call_checked}
use Rattle.writer.specs.Written.{if_all_sound, written}
use Rattle.refusal.specs.declared.Refusal.TheVariants.{BadStore, BadLimit, TooManyRequests}

-- a call that is sound is on a store of the right shape
pub sound_shaped : (places cells : List ℕ) (limit n : ℕ) → call_checked places cells limit n ≡ Ok tt → shaped places cells ≡ true
sound_shaped places cells limit n e = by (shaped places cells) _ e
  where
    by : (b : Bool) (rest : Result (Unit {0}) Refusal) → cond b rest (Err BadStore) ≡ Ok tt → b ≡ true
    by true rest h = refl
    by false rest h = absurd (cc)

-- each test refuses, or leaves it to the next
tested : (shaped low high many : Bool) (o : OutputAfter (Result Total Refusal)) (out : List ℕ)
    → if_all_sound (cond shaped (cond low (Err BadLimit) (cond high (Err BadLimit) (cond many (Err TooManyRequests) (Ok tt)))) (Err BadStore)) o out
    ≡ cond shaped
    (cond low (writing_refused BadLimit out) (cond high (writing_refused BadLimit out) (cond many (writing_refused TooManyRequests out) o)))
    (writing_refused BadStore out)
tested false low high many o out = refl
tested true true high many o out = refl
tested true false true many o out = refl
tested true false false true o out = refl
tested true false false false o out = refl

module _ (places cells : List ℕ) (sender rts limit n : ℕ) (rs : List Request) (out : List ℕ) where
  -- the verdict on the call counts before that on the requests
  pub written_by : (call v : Result (Unit {0}) Refusal) → call ≡ call_checked places cells limit n → v ≡ checked places [] rs
      → if_all_sound call (if_all_sound v (put_packets (plan limit rs) (packets_for places cells sender rts limit rs) out) out) out
      ≡ written places cells sender rts limit n rs out
  unfolding written
  written_by call v e f = rw (e, f) (tested (shaped places cells) (ltb limit least_limit) (ltb most_limit limit) (ltb most_requests n) _ out)
