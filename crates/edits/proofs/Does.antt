-- What the stores and the edits show, from what the calls ensure.
use Prim.Native.Nat.{ℕ, zero, suc, ◌+◌, ◌<◌}
use native.Mathlib.Numerals.{add-one}
use native.Mathlib.Omega.{arith}
use lib.Dec.{ltb}
use mathlib.Core.Path.{◌≡◌, refl, ap, sym, ◌∙◌, subst}
use mathlib.Core.Bool.{Bool, true, false, false≢true}
use mathlib.Core.List.{List}
use Rattle.std.specs.Prelude.{Some, None}
use borrow.Author.Tests.{lt-ltb, le-ltb, ltb-true, ltb-false}
use Rattle.tables.proofs.Counts.{cases}
use Rattle.tables.specs.Table.{Table, hit, place_of}
use Rattle.owners.specs.Next.{place_if}
use Rattle.owners.proofs.Finding.{place_some, place_none}
use Rattle.records.specs.Tables.{of_types, of_rules, of_rows, of_periods, table}
use Rattle.places.specs.Layout.{type_places, put_type, rule_places, put_rule, row_places, row_at, put_row, period_places, put_period, zero_rule}
use Rattle.places.specs.declared.RestrictionType.{RestrictionType}
use Rattle.places.specs.declared.Rule.{Rule}
use Rattle.places.specs.declared.Row.{Row}
use Rattle.places.specs.declared.Period.{Period}
use Rattle.records.specs.Said.{type_of, rule_of, row_of, period_of}
use Rattle.records.specs.Asks.{type_meets, rule_meets, row_meets, period_meets}
use Rattle.book.specs.Places.{type_place, rule_place, row_place, period_place}
use Rattle.records.specs.declared.TypeAsk.TheVariants as Types
use Rattle.records.specs.declared.RuleAsk.TheVariants as Rules
use Rattle.records.specs.declared.RowAsk.TheVariants as Rows
use Rattle.records.specs.declared.PeriodAsk.TheVariants as Periods
use Rattle.commands.specs.Asked.{asked_by, asked}
use Rattle.records.specs.declared.TypeKey.{TypeKey}
use Rattle.records.specs.declared.RuleKey.{RuleKey}
use Rattle.commands.specs.declared.Question.{Question}
use Rattle.meaning.specs.declared.Wishes.{Wishes}
use Rattle.commands.specs.declared.What.TheVariants as What
use Rattle.commands.specs.declared.Command.{Command}
use Rattle.edits.specs.Moves.{row_with, carried, carry_row, carry_rows}
use Rattle.edits.specs.Leaves.{Accepted, Edited}
use Rattle.edits.specs.Edit.{stored, Changed, ChangedAt, ChangedEach, store_type, store_rule, store_row, store_period, ended_type, ended_period, deleted_rule, deleted_row, reordered_rule, edit_in}
use Rattle.edits.proofs.Carried.{carry_none, carry_more}
use Rattle.edits.proofs.Stay.{edit_left}

-- a store at the place that is found, and none where none is
module _ {P : Type 0} (put : List ℕ → ℕ → P → List ℕ) (places n : ℕ) (b : List ℕ) (r : ℕ → P) where
  pub stored_there : (i : ℕ) (b' : List ℕ) → Some i ≡ place_if places n → b' ≡ put b i (r i)
      → b' ≡ stored places put b n (r n)
  stored_there i b' e f =
      let h : (i ≡ n) × (n < places) = place_some places i n e in
      rw (lt-ltb n places h.1) (f ∙ ap (λ j. put b j (r j)) h.0)

  pub stored_nowhere : None ≡ place_if places n → b ≡ stored places put b n (r n)
  stored_nowhere e = rw (le-ltb n places (place_none places n e))

-- the record at the place that is found, as a call makes it
module _ {P : Type 0} (at : List ℕ → ℕ → P) (put : List ℕ → ℕ → P → List ℕ) (places n : ℕ) (made : P → P → Type 0) (b b' : List ℕ) where
  pub changed_there : (i : ℕ) (x r : P) → Some i ≡ place_if places n → x ≡ at b i → made x r → b' ≡ put b i r
      → Changed places at put made b n b'
  changed_there i x r e f g h =
      let z : (i ≡ n) × (n < places) = place_some places i n e in
      record {
        there = λ l. (r, (subst (λ j. made (at b j) r) z.0 (subst (λ y. made y r) f g), h ∙ ap (λ j. put b j r) z.0));
        nowhere = λ l. absurd (omega (arith, z.1));
      }

  pub changed_nowhere : None ≡ place_if places n → b' ≡ b → Changed places at put made b n b'
  changed_nowhere e f = record { there = λ l. absurd (omega (arith, place_none places n e)); nowhere = λ l. f }

  -- where every call makes of a record what f does
  pub changed_by : (f : P → P) → Changed places at put made b n b' → ((x r : P) → made x r → r ≡ f x)
      → b' ≡ stored places put b n (f (at b n))
  changed_by f c m =
      cases (ltb n places)
      (λ t. rw t (by_there (c.there (ltb-true n places t))))
      (λ t. rw t (c.nowhere (ltb-false n places t)))
    where
      by_there : (r : P) × (made (at b n) r × (b' ≡ put b n r)) → b' ≡ put b n (f (at b n))
      by_there (r, (e, g)) = g ∙ ap (put b n) (m (at b n) r e)

-- a rule of zeros
pub rule_of_zeros : (r : Rule) → r.csd ≡ 0 → r.number ≡ 0 → r.object ≡ 0 → r.sequence ≡ 0 → r.sign ≡ 0
    → r.criteria ≡ 0 → r.first ≡ 0 → r.last ≡ 0 → r ≡ zero_rule
rule_of_zeros r a b c d e f g h i = record { csd = a i; number = b i; object = c i; sequence = d i; sign = e i; criteria = f i; first = g i; last = h i }

-- ---- a pass over the places

module _ {P R : Type 0} (t : Table P R) (at : List ℕ → ℕ → P) (put : List ℕ → ℕ → P → List ℕ) (a : ℕ) (q : R → Bool) (made : List ℕ → P → P → Type 0) (b : List ℕ) where
  pub each_none : ChangedEach t at put a q made b 0 b
  unfolding ChangedEach
  each_none = refl

  pub each_more : (c b' : List ℕ) (n : ℕ) → ChangedEach t at put a q made b n c → ChangedAt t at put a q made c n b'
      → ChangedEach t at put a q made b (n + 1) b'
  unfolding ChangedEach
  each_more c b' n e f = rw add-one (c, (e, f))

  -- what every step makes, the pass makes
  pub each_by : (to : ℕ → List ℕ) → b ≡ to 0 → ((n : ℕ) (b' : List ℕ) → ChangedAt t at put a q made (to n) n b' → b' ≡ to (suc n))
      → (n : ℕ) (b' : List ℕ) → ChangedEach t at put a q made b n b' → b' ≡ to n
  unfolding ChangedEach
  each_by to e f zero b' c = c ∙ e
  each_by to e f (suc n) b' (c, (g, h)) =
      f n b' (subst (λ z. ChangedAt t at put a q made z n b') (each_by to e f n c g) h)

pub changed_here : {P R : Type 0} (t : Table P R) (at : List ℕ → ℕ → P) (put : List ℕ → ℕ → P → List ℕ) (a : ℕ) (q : R → Bool) (made : List ℕ → P → P → Type 0) (b b' : List ℕ) (i : ℕ) (x r : P) (met : Bool)
    → met ≡ hit t b a q i → met ≡ true → x ≡ at b i → made b x r → b' ≡ put b i r → ChangedAt t at put a q made b i b'
changed_here t at put a q made b b' i x r met e f g h k = record {
  there = λ z. (r, (subst (λ y. made b y r) g h, k));
  elsewhere = λ z. absurd (false≢true (sym z ∙ sym e ∙ f));
}

pub unchanged_here : {P R : Type 0} (t : Table P R) (at : List ℕ → ℕ → P) (put : List ℕ → ℕ → P → List ℕ) (a : ℕ) (q : R → Bool) (made : List ℕ → P → P → Type 0) (b : List ℕ) (i : ℕ) (met : Bool)
    → met ≡ hit t b a q i → met ≡ false → ChangedAt t at put a q made b i b
unchanged_here t at put a q made b i met e f = record {
  there = λ z. absurd (false≢true (sym f ∙ e ∙ z));
  elsewhere = λ z. refl;
}

-- ---- O: a row is carried along if it is the depository's and of the rule

module _ (c new : ℕ) (key : RuleKey) (made : List ℕ → Row → Row → Type 0) (does : (b : List ℕ) (x r : Row) → made b x r → r ≡ row_with new x) where
  row_carried : (b b' : List ℕ) (i : ℕ) → ChangedAt (table of_rows) row_at put_row c (row_meets (Rows.OfRule key)) made b i b'
      → b' ≡ carry_row c key.number key.object key.sequence new b i
  unfolding carry_row carried row_meets
  row_carried b b' i h =
      cases (hit (table of_rows) b c (row_meets (Rows.OfRule key)) i)
      (λ t. rw t (by_call (h.there t)))
      (λ t. rw t (h.elsewhere t))
    where
      by_call : (r : Row) × (made b (row_at b i) r × (b' ≡ put_row b i r)) → b' ≡ put_row b i (row_with new (row_at b i))
      by_call (r, (e, g)) = g ∙ ap (put_row b i) (does b (row_at b i) r e)

  pub rows_carried_by : (b b' : List ℕ) → ChangedEach (table of_rows) row_at put_row c (row_meets (Rows.OfRule key)) made b row_places b'
      → b' ≡ carry_rows c key.number key.object key.sequence new b row_places
  rows_carried_by b b' =
      each_by (table of_rows) row_at put_row c (row_meets (Rows.OfRule key)) made b (carry_rows c key.number key.object key.sequence new b)
      (carry_none c key.number key.object key.sequence new b)
      (λ n b'' h. carry_more' n b'' (row_carried (carry_rows c key.number key.object key.sequence new b n) b'' n h))
      row_places b'
    where
      carry_more' : (n : ℕ) (b'' : List ℕ) → b'' ≡ carry_row c key.number key.object key.sequence new (carry_rows c key.number key.object key.sequence new b n) n
          → b'' ≡ carry_rows c key.number key.object key.sequence new b (suc n)
      carry_more' n b'' e = e ∙ sym (carry_more c key.number key.object key.sequence new b n) ∙ rw add-one

-- ---- of a command: its record is stored as the depository's

module _ (b b' : List ℕ) (c : Command) where
  pub edit_t : (t : RestrictionType) → c.what ≡ What.AddType t
      → b' ≡ stored type_places put_type b (place_of (table of_types) b 0 (type_meets Types.Any)) (record { csd = c.csd; number = t.number; object = t.object; processing = t.processing; first = t.first; last = t.last })
      → b' ≡ edit_in b c.csd (asked c)
  unfolding edit_in asked_by store_type type_place type_of
  edit_t t e f = rw e f

  pub edit_e : (k : TypeKey) (last : ℕ) → c.what ≡ What.EndType k last → b' ≡ ended_type b c.csd k.number k.object last
      → b' ≡ edit_in b c.csd (asked c)
  unfolding edit_in asked_by
  edit_e k last e f = rw e f

  pub edit_r : (t : Rule) → c.what ≡ What.AddRule t
      → b' ≡ stored rule_places put_rule b (place_of (table of_rules) b 0 (rule_meets Rules.Any)) (record { csd = c.csd; number = t.number; object = t.object; sequence = t.sequence; sign = t.sign; criteria = t.criteria; first = t.first; last = t.last })
      → b' ≡ edit_in b c.csd (asked c)
  unfolding edit_in asked_by store_rule rule_place rule_of
  edit_r t e f = rw e f

  pub edit_a : (p : Period) → c.what ≡ What.AddPeriod p
      → b' ≡ stored period_places put_period b (place_of (table of_periods) b 0 (period_meets Periods.Any)) (record { csd = c.csd; kind = p.kind; number = p.number; code = p.code; first = p.first; last = p.last })
      → b' ≡ edit_in b c.csd (asked c)
  unfolding edit_in asked_by store_period period_place period_of
  edit_a p e f = rw e f

  pub edit_z : (p : Period) → c.what ≡ What.EndPeriod p
      → b' ≡ ended_period b (record { csd = c.csd; kind = p.kind; number = p.number; code = p.code; first = p.first; last = p.last })
      → b' ≡ edit_in b c.csd (asked c)
  unfolding edit_in asked_by
  edit_z p e f = rw e f

  -- the row beside is the command's
  pub edit_o : (k : RuleKey) (new : ℕ) → c.what ≡ What.Reorder k new
      → b' ≡ reordered_rule b c.csd k.number k.object k.sequence new → b' ≡ edit_in b c.csd (asked c)
  unfolding edit_in asked_by
  edit_o k new e f = rw e f

  pub edit_d : (k : RuleKey) → c.what ≡ What.DeleteRule k → b' ≡ deleted_rule b c.csd k.number k.object k.sequence
      → b' ≡ edit_in b c.csd (asked c)
  unfolding edit_in asked_by
  edit_d k e f = rw e f

  pub edit_m : (w : Row) → c.what ≡ What.AddRow w
      → b' ≡ stored row_places put_row b (place_of (table of_rows) b 0 (row_meets Rows.Any)) (record { csd = c.csd; number = w.number; object = w.object; sequence = w.sequence; values = w.values })
      → b' ≡ edit_in b c.csd (asked c)
  unfolding edit_in asked_by store_row row_place row_of
  edit_m w e f = rw e f

  pub edit_n : (w : Row) → c.what ≡ What.DeleteRow w
      → b' ≡ deleted_row b c.csd (row_of (record { csd = c.csd; number = w.number; object = w.object; sequence = w.sequence; values = w.values }))
      → b' ≡ edit_in b c.csd (asked c)
  unfolding edit_in asked_by row_of
  edit_n w e f = rw e f

pub edit_q : (b : List ℕ) (c : Command) (q : Question) (x : Wishes) → c.what ≡ What.Ask q x → b ≡ edit_in b c.csd (asked c)
unfolding edit_in asked_by
edit_q b c q x e = rw e

-- so that it leaves what the meaning says
pub edit_meant : (b b' : List ℕ) (c : Command) → b' ≡ edit_in b c.csd (asked c) → Accepted b c.csd (asked c)
    → Edited b c.csd (asked c) b'
edit_meant b b' c e a = rw e (edit_left b c.csd (asked c) a)
