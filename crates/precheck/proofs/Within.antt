-- From an emptied book on every rule lies within its type where no E is sent; and a sound book in which one does not.
use Rattle.std.proofs.Common.{◌∙◌, arith}
use Rattle.tables.specs.Count.{keep}
use Rattle.meaning.specs.Records as M
use Rattle.meaning.specs.Lone.{after_sent, after, counts, names}
use Rattle.meaning.specs.Within.{shortened_lines}
use Rattle.meaning.proofs.WithinLines.{within_same, within_alone, sound_outside}
use Rattle.book.specs.Lone.{lone_book}
use Rattle.book.proofs.NoRecords.{emptied_sound, emptied_lone}
use Rattle.book.proofs.SameBooks.{same_books}
use Rattle.precheck.specs.Within.{WithinTypes, SoundShared}
use Rattle.precheck.proofs.Alone.{from}
use Rattle.precheck.proofs.Tries.{some_left, held_sound, held}

pub within_types : WithinTypes
within_types lent b b' e lines xs steps a low high n =
    let own = same_books (emptied_lone lent b e a low) in
    let fed = from a low high steps M.empty (emptied_sound lent b e) own in
    within_same (lone_book a b') (after_sent M.empty (keep (counts a) lines)) fed.left
    ∙ within_alone (keep (counts a) lines) n

-- all the lines name depository 2
pub sound_shared : SoundShared
unfolding keep names shortened_lines
sound_shared = record {
  some = some_left shortened_lines;
  each_sound = λ b l. held_sound shortened_lines b l;
  each_outside = λ b l.
      within_same (lone_book 2 b) (after M.empty shortened_lines) (held shortened_lines b l 2 (omega arith) (omega arith))
      ∙ sound_outside.outside;
}
