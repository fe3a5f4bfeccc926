-- The words of two forms: named, so that another word is refused for certain. The check finds the other arms alone.
use Rattle.shapes.specs.Table.{words_of}
use Rattle.shapes.proofs.Form.words.Goals as goal

pub returns-in-Movement-clause-words : goal.returns-in-Movement-clause-words
unfolding words_of
returns-in-Movement-clause-words c = rw c.in-Movement.is

pub returns-in-Wish-clause-words : goal.returns-in-Wish-clause-words
unfolding words_of
returns-in-Wish-clause-words c = rw c.in-Wish.is
