-- What `fits` and `lone` return for each kind. A new table adds a group.
use Rattle.std.proofs.Common.{◌≡◌, ℕ, Bool, true, false, not, ◌&&◌, List, sym, refl, ◌∙◌}
use Rattle.std.specs.Prelude.{Some, None}
use mathlib.Core.Bool.{and-false}
use borrow.Author.Tests.{not-true, not-false}
use Rattle.tables.specs.Below.{any_below}
use Rattle.tables.proofs.Counts.{both}
use Rattle.meaning.specs.Forms.{holds_all, ten_values}
use Rattle.meaning.specs.Sound.{rule_fits, row_fits}
use Rattle.places.specs.Layout.{type_places, rule_places}
use Rattle.records.specs.Said.{rule_of, row_of}
use Rattle.chains.specs.declared.Seen.{Seen}
use Rattle.soundness.specs.Reads.{rule_read, row_read, key_holds}
use Rattle.soundness.specs.Kind.{Kind}
use Rattle.soundness.specs.Kind as Kinds
use Rattle.soundness.specs.Kinds.{bucket_at, fit_at, typed_in, ruled_in, csd_at, lone_at, RulesChained}
use Rattle.soundness.proofs.Walks.{ruled_key_lem}

module _ (b : List ℕ) (at : ℕ) where
  -- a record is right by itself, and has its bucket, or is not

  module _ (kind : Kind) (f : Bool) (g : f ≡ fit_at b kind at) where
    pub lone_unfit : not f ≡ true → None ≡ lone_at b kind at
    unfolding lone_at
    lone_unfit h = rw (sym g ∙ not-true f h)

    pub lone_fit : (k : ℕ) → k ≡ bucket_at b kind at → not f ≡ false → Some k ≡ lone_at b kind at
    unfolding lone_at
    lone_fit k e h = rw (sym g ∙ not-false f h, e)

  -- a rule's range, and its type

  pub rule_unfit : (f : Bool) → f ≡ rule_fits (rule_of (rule_read b at)) → not f ≡ true → false ≡ fit_at b Kinds.Rules at
  unfolding fit_at
  rule_unfit f g h = rw (sym g ∙ not-true f h)

  pub rule_fit : (f t : Bool) → f ≡ rule_fits (rule_of (rule_read b at)) → not f ≡ false
      → t ≡ any_below (typed_in b at) type_places → t ≡ fit_at b Kinds.Rules at
  unfolding fit_at
  rule_fit f t g h e = rw (sym g ∙ not-false f h, e)

  -- a row's values with its rule

  row_parts : (t : Bool) → t ≡ (holds_all ten_values (row_read b at).values && any_below (ruled_in b at) rule_places)
      → fit_at b Kinds.Rows at ≡ (key_holds b at && t)
  unfolding fit_at row_fits row_of key_holds row_read
  row_parts t e = regrouped (key_holds b at) (holds_all ten_values (row_read b at).values) (any_below (ruled_in b at) rule_places) ∙ rw e
    where
      regrouped : (k h r : Bool) → ((k && h) && r) ≡ (k && (h && r))
      regrouped true h r = refl
      regrouped false h r = refl

  pub row_fit : (t : Bool) (s : Seen)
      → t ≡ (holds_all ten_values (row_read b at).values && any_below (ruled_in b at) rule_places) → RulesChained b s
      → (csd_at b at ≡ 0 → ⊥) → t ≡ fit_at b Kinds.Rows at
  row_fit true s e m u =
      let z = both (holds_all ten_values (row_read b at).values) (any_below (ruled_in b at) rule_places) (sym e) in
      sym (row_parts true e ∙ rw (ruled_key_lem b at m.right u z.1))
  row_fit false s e m u = sym (row_parts false e ∙ and-false (key_holds b at))
