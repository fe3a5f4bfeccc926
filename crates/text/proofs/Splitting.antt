-- The first line of a text, and the lines after it.
use Rattle.std.proofs.Common.{ℕ, suc, ◌+◌, ◌-◌, ◌≤◌, ◌<◌, ◌≡◌, List, [], ◌∷◌, arith, eqb, length, take, drop, length-drop, drop_of_length-le, drop-drop, lt-ltb, le-ltb}
use Rattle.tables.proofs.Counts.{cases}
use Rattle.meaning.specs.Text.{place}
use Rattle.meaning.specs.Desk.{lines_of}
use Rattle.text.specs.Parts.{span_from, Splits}
use Rattle.fields.proofs.Cutting.{place_bound}

first_line : (c : ℕ) (cs : List ℕ) → lines_of (c ∷ cs) ≡ take (place 10 (c ∷ cs)) (c ∷ cs) ∷ lines_of (drop (suc (place 10 (c ∷ cs))) (c ∷ cs))
unfolding lines_of
first_line c [] = cases (eqb c 10) (λ e. rw e) (λ e. rw e)
first_line c (d ∷ cs) = cases (eqb c 10) (λ e. rw e) (λ e. rw (e, first_line d cs))

-- a text that has not ended
first_of : (l : List ℕ) → 0 < length l → lines_of l ≡ take (place 10 l) l ∷ lines_of (drop (suc (place 10 l)) l)
first_of [] h = absurd (omega arith)
first_of (c ∷ cs) h = first_line c cs

module _ (l : List ℕ) (at e : ℕ) (q : e ≡ at + place 10 (drop at l)) where
  line_from : at < length l → lines_of (drop at l) ≡ take (e - at) (drop at l) ∷ lines_of (drop (e + 1) l)
  line_from h =
      let n : e - at ≡ place 10 (drop at l) = omega arith in
      let m : e + 1 ≡ at + suc (place 10 (drop at l)) = omega arith in
      rw (n, m, ← drop-drop) (first_of (drop at l) (omega (arith, length-drop at l)))

  no_line : length l ≤ at → lines_of (drop at l) ≡ []
  unfolding lines_of
  no_line h = rw (drop_of_length-le l h)

  end_bound : at ≤ length l → e ≤ length l
  end_bound h = omega (arith, place_bound 10 (drop at l), length-drop at l)

  pub line_ended : e < length l → Splits l at (record { end = e; next = e + 1 })
  unfolding span_from
  line_ended h = record {
    whole = rw (← q, lt-ltb e (length l) h);
    line = line_from;
    none = no_line;
    from = omega arith;
    onward = omega arith;
    later = λ k. omega arith;
    inside = λ k. omega arith;
  }

  pub line_last : length l ≤ e → Splits l at (record { end = e; next = e })
  unfolding span_from
  line_last h = record {
    whole = rw (← q, le-ltb e (length l) h);
    line = λ k.
        let a = drop_of_length-le l h in
        let b : length l ≤ e + 1 = omega arith in
        let d = drop_of_length-le l b in
        rw (a, ← d) (line_from k);
    none = no_line;
    from = omega arith;
    onward = omega arith;
    later = λ k. omega arith;
    inside = end_bound;
  }
