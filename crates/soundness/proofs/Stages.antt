-- The stages of `is_sound`: types, rules, rows and periods, and that together they are soundness.
use Rattle.std.proofs.Common.{◌≡◌, ℕ, Bool, true, false, not, ◌&&◌, eqb, List, length, sym, ap, ◌∙◌, ap₂, eq-eqb}
use mathlib.Core.Bool.{and-false}
use borrow.Author.Tests.{not-true, not-false}
use Rattle.tables.specs.Count.{all_below}
use Rattle.places.specs.Layout.{book_size, type_places}
use Rattle.book.specs.Sound.{sound}
use Rattle.chains.specs.declared.Seen.{Seen}
use Rattle.chains.specs.Chains.{AllPassed}
use Rattle.soundness.specs.Kind.{Kind}
use Rattle.soundness.specs.Kind as Kinds
use Rattle.soundness.specs.Kinds.{table_of, csd_of, bucket_of, right_of, ChainedOf, RulesChained}
use Rattle.soundness.proofs.Decided.{decided}
use Rattle.soundness.proofs.WholeTable.{types_whole, rules_whole, rows_whole, periods_whole}

module _ (b : List ℕ) where
  -- all places of a table are passed
  abbrev pub Stage : Kind → Bool → Seen → Type 0
  Stage kind = AllPassed (csd_of b kind) (bucket_of b kind) (table_of kind).places (right_of b kind)

  abbrev all_right : Kind → Bool
  all_right kind = all_below (right_of b kind) (table_of kind).places

  staged : sound b ≡ (eqb (length b) book_size && (all_right Kinds.Types && (all_right Kinds.Rules && (all_right Kinds.Rows && all_right Kinds.Periods))))
  staged =
      decided b
      ∙ ap (λ x. eqb (length b) book_size && x)
      (ap₂ ◌&&◌ (types_whole b) (ap₂ ◌&&◌ (rules_whole b) (ap₂ ◌&&◌ (rows_whole b) (periods_whole b))))

  -- Where a stage has not failed its chains are whole.

  pub types_chained : (t : Bool) (s : Seen) → Stage Kinds.Types t s → not t ≡ false → ChainedOf b Kinds.Types s type_places
  types_chained t s m f = m.chained (not-false t f)

  pub rules_chained : (t : Bool) (s : Seen) → Stage Kinds.Rules t s → not t ≡ false → RulesChained b s
  rules_chained t s m f =
      record { right = sym m.answered ∙ not-false t f; chained = m.chained (not-false t f) }

  -- Where one fails, the book is not sound.

  pub types_fail : (t : Bool) (s : Seen) → Stage Kinds.Types t s → not t ≡ true → false ≡ sound b
  types_fail t s m f = sym (staged ∙ rw (← m.answered, not-true t f) (and-false (eqb (length b) book_size)))

  pub rules_fail : (t : Bool) (s : Seen) → Stage Kinds.Rules t s → not t ≡ true → false ≡ sound b
  rules_fail t s m f =
      sym (staged ∙ rw (← m.answered, not-true t f, and-false (all_right Kinds.Types)) (and-false (eqb (length b) book_size)))

  pub rows_fail : (t : Bool) (s : Seen) → Stage Kinds.Rows t s → not t ≡ true → false ≡ sound b
  rows_fail t s m f =
      sym (staged
      ∙ rw (← m.answered, not-true t f, and-false (all_right Kinds.Rules), and-false (all_right Kinds.Types)) (and-false (eqb (length b) book_size)))

  -- Where none of the first three does, the last decides.
  pub sound_end : (t r w p : Bool) (s₁ s₂ s₃ s₄ : Seen) → length b ≡ book_size → Stage Kinds.Types t s₁ → not t ≡ false
      → Stage Kinds.Rules r s₂ → not r ≡ false → Stage Kinds.Rows w s₃ → not w ≡ false → Stage Kinds.Periods p s₄
      → p ≡ sound b
  sound_end t r w p s₁ s₂ s₃ s₄ l m₁ f₁ m₂ f₂ m₃ f₃ m₄ =
      rw (
        staged,
        eq-eqb (length b) book_size l,
        sym m₁.answered ∙ not-false t f₁,
        sym m₂.answered ∙ not-false r f₂,
        sym m₃.answered ∙ not-false w f₃,
      )
      m₄.answered
