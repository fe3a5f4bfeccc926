-- The refusal of a command is the earliest of its conditions that holds.
use mathlib.Core.Path.{◌≡◌, refl, ap, sym, ◌∙◌}
use mathlib.Core.Bool.{Bool, true, false, false≢true}
use mathlib.Core.List.{List, [], ◌∷◌}
use Rattle.std.specs.Prelude.{is_some, unwrap_or}
use Rattle.tables.proofs.Lists.{has_cons}
use Rattle.meaning.specs.Records as M
use Rattle.meaning.specs.Refusals.{first_of, conditions, refusal}
use Rattle.meaning.specs.declared.Refusal.{Refusal}
use Rattle.refusals.specs.Earliest.{some_holds, FirstHolds, Earliest}

-- a condition that does not hold
holds_past : (k : Refusal) (cs : List (Refusal × Bool)) → some_holds ((k, false) ∷ cs) ≡ some_holds cs
unfolding some_holds
holds_past k cs = has_cons (λ c. c.1) (k, false) cs

first_past : (k r : Refusal) (cs : List (Refusal × Bool)) → FirstHolds cs r → FirstHolds ((k, false) ∷ cs) r
first_past k r cs f = record {
  before = (k, false) ∷ f.before;
  after = f.after;
  all = ap (◌∷◌ (k, false)) f.all;
  earlier = holds_past k f.before ∙ f.earlier;
}

first_here : (k r : Refusal) (cs : List (Refusal × Bool)) → k ≡ r → FirstHolds ((k, true) ∷ cs) r
unfolding some_holds
first_here k r cs e = record { before = []; after = cs; all = ap (λ z. (z, true) ∷ cs) e; earlier = refl }

first_earliest : (cs : List (Refusal × Bool)) → Earliest cs (first_of cs)
unfolding some_holds
first_earliest [] = record { none = λ e. refl; one = λ r e. absurd (false≢true (ap is_some e)) }
first_earliest ((k, true) ∷ cs) = record {
  none = λ e. absurd (false≢true (sym (ap is_some e)));
  one = λ r e. first_here k r cs (ap (λ o. unwrap_or o k) e);
}
first_earliest ((k, false) ∷ cs) =
    let e = first_earliest cs in
    record { none = λ z. holds_past k cs ∙ e.none z; one = λ r z. first_past k r cs (e.one r z) }

pub earliest : (b : M.Book) (k : M.Command) → Earliest (conditions b k) (refusal b k)
unfolding refusal
earliest b k = first_earliest (conditions b k)
