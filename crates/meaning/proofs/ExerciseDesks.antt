-- The two desks: one enters rule 5 again as 5, the other as 9 behind a broader rule 7. What is stated of every book, of
-- theirs: its conditions are met, by computation.
use Rattle.std.proofs.Common.{ℕ, ◌≡◌, refl, true, List, [], ◌∷◌, map, arith}
use Rattle.tables.specs.Count.{count, has, least, change}
use Rattle.meaning.specs.Text.{bytes, word}
use Rattle.meaning.specs.Records.{Rule, Row, Book, Question, empty, positive}
use Rattle.meaning.specs.Reading.{reading}
use Rattle.meaning.specs.Sound.{sound_lone}
use Rattle.meaning.specs.Judging.{judged}
use Rattle.meaning.specs.Lone.{step_sent, told, after, answers}
use Rattle.meaning.specs.Printing.{printed}
use Rattle.meaning.specs.SameBook.{SameBook}
use Rattle.meaning.specs.declared.Sent.TheVariants.{Alone}
use Rattle.meaning.specs.Exercise.{command_read, done, taking, passing, same_rule, by_entry, Moves, between, names_rule, decides}
use Rattle.meaning.proofs.ExerciseOutIn.{put_back}
use Rattle.meaning.proofs.ExerciseMoved.{behind_another}

-- type 9 with rule 5, payment FREE, and rule 7, movement DELI
unfoldable pub desk : Book
unfolding after
desk =
    after empty
    (bytes "T,3,20170206,9,1,3,20170207,20991231"
    ∷ bytes "R,3,20170206,9,1,5,P,4,20170207,20991231"
    ∷ bytes "M,3,20170206,9,1,5,,,FREE,,,,,,,"
    ∷ bytes "R,3,20170206,9,1,7,P,2,20170207,20991231"
    ∷ bytes "M,3,20170206,9,1,7,,DELI,,,,,,,,"
    ∷ [])

abbrev free : ℕ → Rule
free sequence = record {
  type = 9;
  object = 1;
  sequence = sequence;
  sign = positive;
  criteria = 4;
  first = 20170207;
  last = 20991231;
}

abbrev free_row : ℕ → Row
free_row sequence = record {
  type = 9;
  object = 1;
  sequence = sequence;
  values = 0 ∷ 0 ∷ 2 ∷ 0 ∷ 0 ∷ 0 ∷ 0 ∷ 0 ∷ 0 ∷ 0 ∷ [];
}

-- out, and in again as 5: the lines of the lesson, with its questions and refused lines
abbrev first_desk : List (List ℕ)
first_desk =
    bytes "D,3,20170206,9,1,5"
    ∷ bytes "N,3,20170206,9,1,5,,,FREE,,,,,,,"
    ∷ bytes "D,3,20170206,9,1,5"
    ∷ bytes "Q,3,20170207,1,2,DELI,FREE,,EUR,11,20,30"
    ∷ bytes "Q,3,20170207,1,2,RECE,FREE,,EUR,11,20,30"
    ∷ bytes "D,3,20170206,9,1,5"
    ∷ bytes "R,3,20170206,9,1,5,P,4,20170207,20991231"
    ∷ bytes "M,3,20170206,9,1,5,,,FREE,,,,,,,"
    ∷ []

-- and as 9
abbrev second_desk : List (List ℕ)
second_desk =
    bytes "N,3,20170206,9,1,5,,,FREE,,,,,,,"
    ∷ bytes "D,3,20170206,9,1,5"
    ∷ bytes "R,3,20170206,9,1,9,P,4,20170207,20991231"
    ∷ bytes "M,3,20170206,9,1,9,,,FREE,,,,,,,"
    ∷ []

-- As 5: exactly the same records.
pub first_desk_lem : SameBook (after desk first_desk) desk
unfolding desk sound_lone has same_rule step_sent reading command_read after
first_desk_lem =
    put_back desk refl (free 5) refl (free_row 5 ∷ []) (free_row 5 ∷ []) (λ p. refl) 20170206 (told Alone first_desk)
    (passing refl
    (taking refl refl
    (taking refl refl
    (passing refl (passing refl (passing refl (taking refl refl (taking refl refl done))))))))

second_moves : Moves desk (free 5) 9 (told Alone second_desk)
unfolding desk sound_lone has same_rule step_sent reading command_read change count
second_moves =
    record {
      sound = refl;
      held = refl;
      way = by_entry (λ e. omega arith) (free_row 5 ∷ []) (free_row 9 ∷ []) (λ p. refl) 20170206
          (taking refl refl (taking refl refl (taking refl refl (taking refl refl done))));
    }

-- the delivery free of payment that both rules match
abbrev delivery : Question
delivery = record {
  day = 20170207;
  object = 1;
  party_type = 2;
  movement = 1;
  payment = 2;
  transaction = 0;
  currency = word (bytes "EUR");
  party = 11;
  account = 20;
  security = 30;
}

-- As 9: the broader rule, 7, is named.
pub second_desk_lem : names_rule 9 7 (judged (after desk second_desk) delivery) ≡ true
unfolding desk decides has between least after
second_desk_lem = behind_another desk (free 5) 9 (told Alone second_desk) second_moves delivery refl refl

-- A negative rule exempts in front of the positive one and behind it: 3, then 7.
pub negative_desk : map printed (answers (
    bytes "T,3,20170206,9,1,3,20170207,20991231"
    ∷ bytes "R,3,20170206,9,1,5,P,4,20170207,20991231"
    ∷ bytes "M,3,20170206,9,1,5,,,FREE,,,,,,,"
    ∷ bytes "Q,3,20170207,1,2,DELI,FREE,,EUR,11,20,30"
    ∷ bytes "R,3,20170206,9,1,3,N,2,20170207,20991231"
    ∷ bytes "M,3,20170206,9,1,3,,DELI,,,,,,,,"
    ∷ bytes "Q,3,20170207,1,2,DELI,FREE,,EUR,11,20,30"
    ∷ bytes "O,3,20170206,9,1,3,7"
    ∷ bytes "Q,3,20170207,1,2,DELI,FREE,,EUR,11,20,30"
    ∷ []
    ))
    ≡ bytes "K"
    ∷ bytes "K"
    ∷ bytes "K"
    ∷ bytes "V,A,0,0,0,0,9,5"
    ∷ bytes "K"
    ∷ bytes "K"
    ∷ bytes "V,A,0,0,0,0,0,0"
    ∷ bytes "K"
    ∷ bytes "V,A,0,0,0,0,0,0"
    ∷ []
unfolding answers printed
negative_desk = refl
