-- Source document 004, example 6, 'Revalidation at start of day', by computation: settlement instructions A and B under
-- rules 1 and 2 of a CSD validation hold and rule 3 of a party hold. A is of security 30, which rule 1 names; rule 2
-- names account 20, rule 3 party type 2. Assumes nothing.
use Rattle.std.proofs.Common.{ℕ, ◌≡◌, refl, List, [], ◌∷◌, Option, Some, None}
use Rattle.tables.specs.Count.{has, keep}
use Rattle.meaning.specs.Text.{bytes, word}
use Rattle.meaning.specs.Records.{Book, empty, Kept, Question}
use Rattle.meaning.specs.Judging.{judged}
use Rattle.meaning.specs.Scope.{scoped, is_new}
use Rattle.meaning.specs.Lone.{after}
use Rattle.meaning.specs.Pending.{type_numbers, types_which, among, held_since, is_held, exempts, exempted, passed_over, met, entered, start_verdict, start_exempted, started}

-- the validation hold with rule 1 until 31 March 2016 and rule 2 from 1 April on; the party hold with rule 3 from 3
-- April on
unfoldable pub eurosettlement : Book
eurosettlement =
    after empty (
    bytes "T,1,20150531,1,1,2,20150601,20160630"
    ∷ bytes "R,1,20150531,1,1,1,P,16,20150601,20160331"
    ∷ bytes "M,1,20150531,1,1,1,,,,,30,,,,,"
    ∷ bytes "R,1,20160331,1,1,2,P,32,20160401,20160630"
    ∷ bytes "M,1,20150531,1,1,2,,,,,,20,,,,"
    ∷ bytes "T,1,20160402,2,1,3,20160403,20160630"
    ∷ bytes "R,1,20160402,2,1,1,P,1,20160403,20160630"
    ∷ bytes "M,1,20160402,2,1,1,2,,,,,,,,,"
    ∷ []
    )

-- a delivery free of payment of account 20 on 30 March 2016
abbrev delivery : ℕ → Question
delivery security = record {
  day = 20160330;
  object = 1;
  party_type = 2;
  movement = 1;
  payment = 2;
  transaction = 0;
  currency = word (bytes "EUR");
  party = 11;
  account = 20;
  security = security;
}

-- the days since which the two holds are on after each start of day, nothing once it is cancelled
abbrev since : Option Kept → List ℕ
since None = []
since (Some k) = k.validating ∷ k.holding ∷ []

abbrev next : Book → ℕ → Option Kept → Option Kept
next b day None = None
next b day (Some k) = started b day k

pub through : Book → List ℕ → Option Kept → List (List ℕ)
through b [] k = []
through b (day ∷ days) k = since (next b day k) ∷ through b days (next b day k)

abbrev mornings : List ℕ
mornings = 20160331 ∷ 20160401 ∷ 20160402 ∷ 20160403 ∷ []

-- A is held for validation at its entry by rule 1, stays so although rule 1 has ended, is not checked against rule 2,
-- and is put on party hold on 3 April.
pub example_6_a : through eurosettlement mornings (Some (entered eurosettlement 1 (delivery 30)))
    ≡ (20160330 ∷ 0 ∷ []) ∷ (20160330 ∷ 0 ∷ []) ∷ (20160330 ∷ 0 ∷ []) ∷ (20160330 ∷ 20160403 ∷ []) ∷ []
unfolding through eurosettlement after entered started start_verdict start_exempted met judged scoped is_new exempted exempts passed_over is_held held_since types_which type_numbers among has keep
example_6_a = refl

-- B is held by rule 2 on 1 April, meets no rule on 2 April, and is put on party hold on 3 April.
pub example_6_b : through eurosettlement mornings (Some (entered eurosettlement 2 (delivery 31)))
    ≡ (0 ∷ 0 ∷ []) ∷ (20160401 ∷ 0 ∷ []) ∷ (20160401 ∷ 0 ∷ []) ∷ (20160401 ∷ 20160403 ∷ []) ∷ []
unfolding through eurosettlement after entered started start_verdict start_exempted met judged scoped is_new exempted exempts passed_over is_held held_since types_which type_numbers among has keep
example_6_b = refl
