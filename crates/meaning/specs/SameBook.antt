-- Two lone books with exactly the same records, in whatever order: that each record is in both equally often is
-- `Exactly`. Assumes nothing.
use Rattle.tables.specs.Count.{Same}
use Rattle.meaning.specs.Records.{Book}

pub record SameBook (b c : Book) : Type 0 where
  pub types : Same b.types c.types
  pub rules : Same b.rules c.rules
  pub rows : Same b.rows c.rows
  pub periods : Same b.periods c.periods
