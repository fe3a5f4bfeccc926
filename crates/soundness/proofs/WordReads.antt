-- Numbers read byte by byte from an index, and several of them as one word: words are the same exactly if the numbers
-- are.
use Rattle.std.proofs.Common.{◌≡◌, ℕ, ◌+◌, ◌*◌, ◌/◌, ◌%◌, ◌<◌, Bool, ◌&&◌, eqb, List, [], ◌∷◌, get_or, sym, refl, ap, ◌∙◌, mod-eq_of_lt, zero-add, arith, eq-eqb, eqb-true}
use native.Mathlib.Nat.{div-eq_of_lt, add-mul-mod_self_left, add-mul-div_left}
use Rattle.tables.specs.Bytes.{Width, one, two, three, four, size, limit, number, numbers, Hold}
use Rattle.tables.specs.Count.{every}
use Rattle.tables.proofs.Counts.{both, agree}
use Rattle.meaning.specs.Text.{same}
use Rattle.records.specs.Free.{all_zero}
use Rattle.soundness.specs.Reads.{Bytes}

next : (at j k : ℕ) → at + (j + k) ≡ at + j + k
next at j k = omega arith

module _ (b : List ℕ) (at j : ℕ) {x y : ℕ} (first : x ≡ get_or b (at + j) 0) (second : y ≡ get_or b (at + j + 1) 0) where
  pub two_read : x + 256 * y ≡ number two b at j
  two_read = rw (next at j 1, first, second)

  pub three_read : {z : ℕ} → z ≡ get_or b (at + j + 2) 0 → x + 256 * y + 65536 * z ≡ number three b at j
  three_read e = rw (next at j 1, next at j 2, first, second, e)

  pub four_read : {z u : ℕ} → z ≡ get_or b (at + j + 2) 0 → u ≡ get_or b (at + j + 3) 0
      → x + 256 * y + 65536 * z + 16777216 * u ≡ number four b at j
  four_read e f = rw (next at j 1, next at j 2, next at j 3, first, second, e, f)

-- ---- words

-- numbers of these widths as one number, the first lowest
abbrev pub word : List Width → List ℕ → ℕ
word [] vs = 0
word (w ∷ ws) [] = 0
word (w ∷ ws) (v ∷ vs) = v + limit w * word ws vs

low_part : (m a c : ℕ) → a < m → (a + m * c) % m ≡ a
low_part m a c h = add-mul-mod_self_left a m c ∙ mod-eq_of_lt h

high_part : (m a c : ℕ) → a < m → (a + m * c) / m ≡ c
high_part m a c h =
    add-mul-div_left a c (omega (arith, h)) ∙ ap (λ (k : ℕ). k + c) (div-eq_of_lt h) ∙ zero-add c

-- Numbers in base m are the same exactly if their lowest digits are and what stands above.
digit : (m a c a' c' : ℕ) → a < m → a' < m → eqb (a + m * c) (a' + m * c') ≡ (eqb a a' && eqb c c')
digit m a c a' c' h h' =
    agree (eqb (a + m * c) (a' + m * c')) (eqb a a' && eqb c c')
    (λ t.
    let e = eqb-true (a + m * c) (a' + m * c') t in
    let low : a ≡ a' = sym (low_part m a c h) ∙ ap (λ (n : ℕ). n % m) e ∙ low_part m a' c' h' in
    let high : c ≡ c' = sym (high_part m a c h) ∙ ap (λ (n : ℕ). n / m) e ∙ high_part m a' c' h' in
    rw (eq-eqb a a' low, eq-eqb c c' high))
    (λ t.
    let p = both (eqb a a') (eqb c c') t in
    eq-eqb (a + m * c) (a' + m * c') (rw (eqb-true a a' p.0, eqb-true c c' p.1)))

word_same : (ws : List Width) (vs us : List ℕ) → Hold ws vs → Hold ws us → eqb (word ws vs) (word ws us) ≡ same vs us
word_same [] [] [] h k = refl
word_same [] [] (u ∷ us) h k = absurd k
word_same [] (v ∷ vs) us h k = absurd h
word_same (w ∷ ws) [] us h k = absurd h
word_same (w ∷ ws) (v ∷ vs) [] h k = absurd k
word_same (w ∷ ws) (v ∷ vs) (u ∷ us) h k =
    digit (limit w) v (word ws vs) u (word ws us) h.0 k.0
    ∙ ap (λ (t : Bool). eqb v u && t) (word_same ws vs us h.1 k.1)

-- Every number that is read holds in its width.
held : (ws : List Width) (b : List ℕ) (at j : ℕ) → Bytes b → Hold ws (numbers ws b at j)
held [] b at j h = tt
held (one ∷ ws) b at j h = (h.each (at + j), held ws b at (j + 1) h)
held (two ∷ ws) b at j h = (omega (arith, h.each (at + j), h.each (at + (j + 1))), held ws b at (j + 2) h)
held (three ∷ ws) b at j h =
    (omega (arith, h.each (at + j), h.each (at + (j + 1)), h.each (at + (j + 2))), held ws b at (j + 3) h)
held (four ∷ ws) b at j h =
    (omega (arith, h.each (at + j), h.each (at + (j + 1)), h.each (at + (j + 2)), h.each (at + (j + 3))), held ws b at (j + 4) h)

-- A word is 0 exactly if all its numbers are.
zero_digit : (w : Width) (a c : ℕ) → eqb (a + limit w * c) 0 ≡ (eqb a 0 && eqb c 0)
zero_digit w a c =
    agree (eqb (a + limit w * c) 0) (eqb a 0 && eqb c 0)
    (λ t.
    let e = eqb-true (a + limit w * c) 0 t in
    let low : a ≡ 0 = omega (arith, e) in
    rw (eq-eqb a 0 low, eq-eqb c 0 (above w a c e)))
    (λ t.
    let p = both (eqb a 0) (eqb c 0) t in
    eq-eqb (a + limit w * c) 0 (rw (eqb-true a 0 p.0, eqb-true c 0 p.1) (nothing w)))
  where
    above : (w : Width) (a c : ℕ) → a + limit w * c ≡ 0 → c ≡ 0
    above one a c e = omega (arith, e)
    above two a c e = omega (arith, e)
    above three a c e = omega (arith, e)
    above four a c e = omega (arith, e)

    nothing : (w : Width) → 0 + limit w * 0 ≡ 0
    nothing one = refl
    nothing two = refl
    nothing three = refl
    nothing four = refl

word_zero : (ws : List Width) (b : List ℕ) (at j : ℕ) → eqb (word ws (numbers ws b at j)) 0 ≡ all_zero (numbers ws b at j)
unfolding all_zero every
word_zero [] b at j = refl
word_zero (w ∷ ws) b at j =
    zero_digit w (number w b at j) (word ws (numbers ws b at (j + size w)))
    ∙ ap (λ (t : Bool). eqb (number w b at j) 0 && t) (word_zero ws b at (j + size w))

pub words_zero : (ws : List Width) (b : List ℕ) (at j x : ℕ) → x ≡ word ws (numbers ws b at j)
    → eqb x 0 ≡ all_zero (numbers ws b at j)
words_zero ws b at j x e = rw e (word_zero ws b at j)

-- The words of two places are the same exactly if their numbers are.
pub words_same : (ws : List Width) (b : List ℕ) (at other j x y : ℕ) → Bytes b → x ≡ word ws (numbers ws b at j)
    → y ≡ word ws (numbers ws b other j) → eqb x y ≡ same (numbers ws b at j) (numbers ws b other j)
words_same ws b at other j x y h e f =
    rw (e, f) (word_same ws (numbers ws b at j) (numbers ws b other j) (held ws b at j h) (held ws b other j h))
