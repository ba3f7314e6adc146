use Rattle.std.proofs.Common.{◌≡◌, ℕ, Bool, true, false, cond, ◌||◌, eqb, List, [], ◌∷◌, refl, ◌∙◌, rules, tests}
use Rattle.std.proofs.lemmas.Iterator.{YieldsList-from_slice}
use Rattle.std.proofs.lemmas.Iterator.Search.{any_from_yields_List}
use Rattle.std.specs.List.{list_any}
use Rattle.cutting.specs.declared.Request.{Request}
use Rattle.request_check.specs.Check.{named}
use Rattle.request_check.proofs.is_named.Goals as goal

or_is_cond : (a b : Bool) → (a || b) ≡ cond a true b
or_is_cond true b = refl
or_is_cond false b = refl

any_is_named : (ssrc : ℕ) (rs : List Request) → list_any (λ r. eqb r.ssrc ssrc) rs ≡ named rs ssrc
unfolding named
any_is_named ssrc [] = refl
any_is_named ssrc (r ∷ rs) = rw (any_is_named ssrc rs) (or_is_cond (eqb r.ssrc ssrc) (named rs ssrc))

pub returns : goal.returns
returns c =
    let rs = c.args.requests.now in
    let ssrc = c.args.ssrc in
    record {
      value = any_from_yields_List (λ (r : Request). eqb r.ssrc ssrc) _ _ c.any.result c.any.ensures.ran
          (YieldsList-from_slice rs cc) (λ x b q k. search (rules, tests)) ∙ any_is_named ssrc rs;
    }
