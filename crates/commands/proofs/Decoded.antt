-- What the commands of each letter show, from what the calls ensure; and which letter an arm of the match on the byte
-- is for.
use Prim.Native.Nat.{ℕ, ◌%◌}
use mathlib.Core.Path.{◌≡◌, refl, ap, ◌∙◌}
use mathlib.Core.Bool.{Bool, false, not, ◌&&◌, ◌||◌, and-true}
use mathlib.Core.List.{List, [], ◌∷◌, map}
use mathlib.Core.Logic.{◌⊎◌, inl, inr}
use Rattle.std.specs.Prelude.{Option}
use lib.Dec.{eqb, ltb}
use borrow.Author.Tests.{ne_eqb}
use Rattle.tables.proofs.Counts.{cases}
use Rattle.meaning.specs.Text.{bytes, same}
use Rattle.meaning.specs.Forms.{Letter, letter_t, letter_e, letter_r, letter_o, letter_d, letter_m, letter_n, letter_a, letter_z, letter_q, letter_text, letter_byte, Shape, shape_t, shape_e, shape_r, shape_o, shape_d, shape_m, shape_n, shape_a, shape_z, shape_q_wishes, shape_q, has_letter, first_shape}
use Rattle.meaning.specs.Records.{◌!◌, wish_of, command_of}
use Rattle.meaning.specs.Refusals.{wrong}
use Rattle.meaning.specs.declared.Wishes.{Wishes}
use Rattle.records.specs.Said.{type_of, rule_of, period_of}
use Rattle.places.specs.declared.RestrictionType.{RestrictionType}
use Rattle.places.specs.declared.Rule.{Rule}
use Rattle.places.specs.declared.Row.{Row}
use Rattle.places.specs.declared.Period.{Period}
use Rattle.commands.specs.Asked.{asked_by, asked, what_of, or_question, letter_for}
use Rattle.records.specs.declared.TypeKey.{TypeKey}
use Rattle.records.specs.declared.RuleKey.{RuleKey}
use Rattle.commands.specs.declared.Question.{Question}
use Rattle.commands.specs.declared.What.{What}
use Rattle.commands.specs.declared.Command.{Command}

-- ---- each letter

module _ (v : List ℕ) (c : ℕ) where
  pub made_type : (t : RestrictionType) (n o p : ℕ)
      → t ≡ record { csd = c; number = n; object = o; processing = p; first = v ! 5; last = v ! 6 }
      → p ≡ v ! 4 % 256 → o ≡ v ! 3 % 256 → n ≡ v ! 2 % 256 → c ≡ v ! 0 % 256
      → What.AddType t ≡ what_of (v ! 0 % 256) (command_of letter_t v)
  unfolding what_of command_of
  made_type t n o p e f g h i = rw (e, f, g, h, i)

  pub made_rule : (r : Rule) (n o s g : ℕ)
      → r ≡ record { csd = c; number = n; object = o; sequence = s; sign = g; criteria = v ! 6; first = v ! 7; last = v ! 8 }
      → g ≡ v ! 5 % 256 → s ≡ v ! 4 % 256 → o ≡ v ! 3 % 256 → n ≡ v ! 2 % 256 → c ≡ v ! 0 % 256
      → What.AddRule r ≡ what_of (v ! 0 % 256) (command_of letter_r v)
  unfolding what_of command_of
  made_rule r n o s g e f h i j k = rw (e, f, h, i, j, k)

  pub made_question : (o : ℕ) (i d : Option Bool) → d ≡ wish_of (v ! 12) → i ≡ wish_of (v ! 11) → o ≡ v ! 2 % 256
      → c ≡ v ! 0 % 256
      → What.Ask (record { csd = c; day = v ! 1; object = o; role = v ! 3; movement = v ! 4; payment = v ! 5; transaction = v ! 6; currency = v ! 7; party = v ! 8; account = v ! 9; security = v ! 10 })
      (record { indicator = i; default = d })
      ≡ what_of (v ! 0 % 256) (command_of letter_q v)
  unfolding what_of command_of
  made_question o i d g h e f = rw (g, h, e, f)

-- ---- the match on the letter's byte

-- what the last arm knows, whose other arms are these bytes, the last of them first
abbrev pub NoneOf : List ℕ → ℕ → Type 0
NoneOf [] n = Unit {0}
NoneOf (k ∷ ks) n = NoneOf ks n × (n ≡ k → ⊥)

pub one_byte_lem : (l : Letter) → letter_text l ≡ letter_byte l ∷ []
one_byte_lem letter_t = refl
one_byte_lem letter_e = refl
one_byte_lem letter_r = refl
one_byte_lem letter_o = refl
one_byte_lem letter_d = refl
one_byte_lem letter_m = refl
one_byte_lem letter_n = refl
one_byte_lem letter_a = refl
one_byte_lem letter_z = refl
one_byte_lem letter_q = refl

pub letter_for_lem : (l : Letter) → letter_for (letter_byte l) ≡ l
unfolding letter_for
letter_for_lem letter_t = refl
letter_for_lem letter_e = refl
letter_for_lem letter_r = refl
letter_for_lem letter_o = refl
letter_for_lem letter_d = refl
letter_for_lem letter_m = refl
letter_for_lem letter_n = refl
letter_for_lem letter_a = refl
letter_for_lem letter_z = refl
letter_for_lem letter_q = refl

has_byte : (n : ℕ) (s : Shape) → has_letter (n ∷ []) s ≡ eqb n (letter_byte s.letter)
has_byte n s = ap (same (n ∷ [])) (one_byte_lem s.letter) ∙ and-true (eqb n (letter_byte s.letter))

-- rows behind others in turn
abbrev after : List Shape → List Shape → List Shape
after [] l = l
after (s ∷ ss) l = after ss (s ∷ l)

-- rows of other letters are passed over
passed : (n : ℕ) (ss l : List Shape) → NoneOf (map (λ s. letter_byte s.letter) ss) n
    → first_shape (has_letter (n ∷ [])) (after ss l) ≡ first_shape (has_letter (n ∷ [])) l
unfolding first_shape
passed n [] l r = refl
passed n (s ∷ ss) l r = passed n ss (s ∷ l) r.0 ∙ rw (has_byte n s ∙ ne_eqb n (letter_byte s.letter) r.1)

-- none of the bytes before Q's
pub none_q : (n : ℕ) → NoneOf (bytes "ZANMDORET") n → letter_for n ≡ letter_q
unfolding letter_for
none_q n r =
    ap or_question
    (passed n (shape_z ∷ shape_a ∷ shape_n ∷ shape_m ∷ shape_d ∷ shape_o ∷ shape_r ∷ shape_e ∷ shape_t ∷ []) (shape_q_wishes ∷ shape_q ∷ []) r)
    ∙ cases (has_letter (n ∷ []) shape_q) (λ e. rw e) (λ e. rw e)

-- an arm has what its letter asks
module _ (l : Letter) (v : List ℕ) (n c : ℕ) (w : What) (e : w ≡ what_of c (command_of l v)) where
  pub arm : n ≡ letter_byte l → w ≡ what_of c (command_of (letter_for n) v)
  arm g = rw (g, letter_for_lem l) e

  pub last_arm : letter_for n ≡ l → w ≡ what_of c (command_of (letter_for n) v)
  last_arm g = rw g e

-- ---- refusal 5 of a command

module _ (c : Command) where
  pub wrong_t : (t : RestrictionType) → c.what ≡ What.AddType t
      → ((eqb t.processing 3 && eqb t.object 2) || ltb t.last t.first) ≡ wrong (asked c)
  unfolding wrong asked_by type_of
  wrong_t t e = rw e

  pub never_wrong : ((k : TypeKey) × (x : ℕ) × (c.what ≡ What.EndType k x))
      ⊎ (((k : RuleKey) × (x : ℕ) × (c.what ≡ What.Reorder k x))
      ⊎ (((k : RuleKey) × (c.what ≡ What.DeleteRule k))
      ⊎ (((w : Row) × (c.what ≡ What.AddRow w)) ⊎ (((w : Row) × (c.what ≡ What.DeleteRow w)) ⊎ ((x : Period) × (c.what ≡ What.EndPeriod x))))))
      → false ≡ wrong (asked c)
  unfolding wrong asked_by
  never_wrong (inl (k, x, e)) = rw e
  never_wrong (inr (inl (k, x, e))) = rw e
  never_wrong (inr (inr (inl (k, e)))) = rw e
  never_wrong (inr (inr (inr (inl (w, e))))) = rw e
  never_wrong (inr (inr (inr (inr (inl (w, e)))))) = rw e
  never_wrong (inr (inr (inr (inr (inr (x, e)))))) = rw e

  pub wrong_r : (t : Rule) → c.what ≡ What.AddRule t → ltb t.last t.first ≡ wrong (asked c)
  unfolding wrong asked_by rule_of
  wrong_r t e = rw e

  pub wrong_a : (p : Period) → c.what ≡ What.AddPeriod p → ltb p.last p.first ≡ wrong (asked c)
  unfolding wrong asked_by period_of
  wrong_a p e = rw e

  pub wrong_1 : (q : Question) (w : Wishes) → c.what ≡ What.Ask q w → q.object ≡ 1
      → (eqb q.movement 0 || eqb q.payment 0) ≡ wrong (asked c)
  unfolding wrong asked_by
  wrong_1 q w e f = rw (e, f)

  pub wrong_2 : (q : Question) (w : Wishes) → c.what ≡ What.Ask q w → (q.object ≡ 1 → ⊥)
      → not (eqb q.movement 0 && eqb q.payment 0) ≡ wrong (asked c)
  unfolding wrong asked_by
  wrong_2 q w e d = rw (e, ne_eqb q.object 1 d)
