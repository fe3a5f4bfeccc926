-- `newrules::BegunTypes::entry` meets its contract; facts are named, so that a wrong one is refused for certain.
use Rattle.std.proofs.Common.{◌≡◌, ◌∙◌, Bool, true, false, ◌&&◌, eqb, leb, eq-eqb, ne_eqb}
use Rattle.newrules.specs.NewRules.{has_begun}
use Rattle.newrules.proofs.BegunTypesPass.entry.Goals as goal
use Rattle.newrules.proofs.BegunTypesPass.entry.Goals.{then-t-self, else-t-self}

both : (a b r : Bool) → a ≡ true → r ≡ b → r ≡ (a && b)
both a b r e f = rw e f

neither : (a b r : Bool) → a ≡ false → r ≡ a → r ≡ (a && b)
neither a b r e f = rw e (f ∙ e)

pub returns : goal.returns
unfolding has_begun
returns c =
    let own : Bool = eqb c.args.t.object c.args.self.now.q.object in
    let now : Bool = leb c.args.t.first c.args.self.now.q.day in
    let begun : c.if-t-self.begun ≡ (own && now) =
    elim c.if-t-self.branch [
      | then-t-self w ↦ both own now _ (eq-eqb _ _ w.if-t-self.true) w.begun-is
      | else-t-self w ↦ neither own now _ (ne_eqb _ _ w.if-t-self.false) w.begun-is
    ] in
    rw (c.then_some.ensures, begun, c.begun_key.ensures, c.begun_when.ensures)
