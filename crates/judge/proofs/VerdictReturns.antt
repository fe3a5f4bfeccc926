-- What the returns of the functions on types and the verdict leave to show.
use Rattle.std.proofs.Common.{ℕ, ◌≡◌, refl, ap, sym, ◌∙◌, Bool, true, false, cond, eqb, Option, Some, None, is_some, unwrap_or}
use mathlib.Core.Bool.{true≢false}
use Rattle.tables.proofs.Counts.{cases}
use Rattle.meaning.specs.Records.{rejection, validation_hold, party_hold}
use Rattle.meaning.specs.Judging.{by}
use Rattle.meaning.specs.declared.Deciding.{Deciding}
use Rattle.judge.specs.Stages.{first_rule, decided, verdict}

module _ (rules : ℕ → ℕ → Bool) where
  by_number : (n : ℕ) → decided rules n ≡ cond (eqb n 0) None (Some (by n (first_rule (rules n))))
  unfolding decided
  by_number n = refl

  -- ---- of the type o that an entry n of the table names

  pub decided_none : (n : ℕ) (o : Option ℕ) → o ≡ cond (eqb n 0) None (Some n) → o ≡ None → None ≡ decided rules n
  decided_none n o e i =
      cases (eqb n 0)
      (λ t. rw (by_number n, t))
      (λ t. absurd (true≢false (sym (ap is_some (rw t at e)) ∙ ap is_some i)))

  pub decided_some : (n m f : ℕ) (o : Option ℕ) → f ≡ first_rule (rules m) → o ≡ cond (eqb n 0) None (Some n) → o ≡ Some m
      → Some (by m f) ≡ decided rules n
  decided_some n m f o ef e i =
      cases (eqb n 0)
      (λ t. absurd (true≢false (sym (ap is_some i) ∙ ap is_some (rw t at e))))
      (λ t.
      let k : n ≡ m = ap (λ x. unwrap_or x 0) (sym (rw t at e) ∙ i) in
      rw (by_number n, t, ef) (ap (λ x. Some (by x (first_rule (rules x)))) (sym k)))

  -- ---- the verdict: d is decided for rejection, h and k for the holds

  module _ (named : ℕ → ℕ) (d : Option Deciding) (e : d ≡ decided rules (named rejection)) where
    pub verdict_rejected : is_some d ≡ true → record { rejection = d; validation = None; party = None } ≡ verdict rules named
    unfolding verdict decided
    verdict_rejected i =
        cases (eqb (named rejection) 0)
        (λ t. let f : d ≡ None = e ∙ by_number (named rejection) ∙ rw t in absurd (true≢false (sym i ∙ ap is_some f)))
        (λ t. rw (e, t))

    pub verdict_accepted : (h k : Option Deciding) → is_some d ≡ false → h ≡ decided rules (named validation_hold)
        → k ≡ decided rules (named party_hold) → record { rejection = None; validation = h; party = k } ≡ verdict rules named
    unfolding verdict decided
    verdict_accepted h k i eh ek =
        cases (eqb (named rejection) 0)
        (λ t. rw (eh, ek, t))
        (λ t.
        let f : d ≡ Some (by (named rejection) (first_rule (rules (named rejection)))) = e ∙ by_number (named rejection) ∙ rw t in
        absurd (true≢false (sym (ap is_some f) ∙ i)))
