-- The tables of the book by name.

pub data Kind : Type 0 where
  Types Rules Rows Periods : Kind
