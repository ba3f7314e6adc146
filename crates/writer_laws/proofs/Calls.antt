-- The cases of `written`, by its tests. Assumes nothing.
use mathlib.Core.Path.{◌≡◌}
use mathlib.Core.Bool.{true, false}
use mathlib.Core.List.{List, []}
use Prim.Native.Nat.{ℕ, ◌≤◌, ◌<◌}
use borrow.Author.Tests.{lt-ltb, le-ltb}
use Rattle.refusal.specs.declared.Refusal.{Refusal}
use Rattle.octets.specs.Output.{OutputAfter}
use Rattle.places.specs.Shape.{shaped}
use Rattle.cutting.specs.Limits.{least_limit, most_limit, most_requests}
use Rattle.cutting.specs.Plan.{plan}
use Rattle.cutting.specs.declared.Request.{Request}
use Rattle.std.specs.Prelude.{Result, Ok, Err}
use Rattle.plan_size.specs.declared.Total.{Total}
use Rattle.requests.specs.Requests.{checked}
use Rattle.blocks.specs.Packets.{packets_for}
use Rattle.sound_writer.specs.Put.{writing_refused, put_packets}
use Rattle.writer.specs.Written.{written}
use Rattle.refusal.specs.declared.Refusal.TheVariants.{BadStore, BadLimit, TooManyRequests}

module _ (places cells : List ℕ) (sender rts limit n : ℕ) (rs : List Request) (out : List ℕ) where
  abbrev all : OutputAfter (Result Total Refusal)
  all = written places cells sender rts limit n rs out

  pub bad_store_lem : shaped places cells ≡ false → writing_refused BadStore out ≡ all
  unfolding written
  bad_store_lem s = rw s

  module _ (s : shaped places cells ≡ true) where
    pub limit_low : limit < least_limit → writing_refused BadLimit out ≡ all
    unfolding written
    limit_low h = rw (s, lt-ltb limit least_limit h)

    module _ (l : least_limit ≤ limit) where
      pub limit_high : most_limit < limit → writing_refused BadLimit out ≡ all
      unfolding written
      limit_high h = rw (s, le-ltb limit least_limit l, lt-ltb most_limit limit h)

      module _ (m : limit ≤ most_limit) where
        pub too_many : most_requests < n → writing_refused TooManyRequests out ≡ all
        unfolding written
        too_many h = rw (s, le-ltb limit least_limit l, le-ltb most_limit limit m, lt-ltb most_requests n h)

        module _ (k : n ≤ most_requests) (v : Result (Unit {0}) Refusal) (e : v ≡ checked places [] rs) where
          pub unsound : (x : Refusal) → v ≡ Err x → writing_refused x out ≡ all
          unfolding written
          unsound x h = rw (s, le-ltb limit least_limit l, le-ltb most_limit limit m, le-ltb most_requests n k, ← e, h)

          pub sound : (o : OutputAfter (Result Total Refusal)) → v ≡ Ok tt
              → o ≡ put_packets (plan limit rs) (packets_for places cells sender rts limit rs) out → o ≡ all
          unfolding written
          sound o h g = rw (s, le-ltb limit least_limit l, le-ltb most_limit limit m, le-ltb most_requests n k, ← e, h) g
