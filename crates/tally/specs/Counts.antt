-- The count after each line of a list. For the replays alone.
use Rattle.std.specs.Prelude.{ℕ, ◌+◌, ◌%◌, ◌^◌, Bool, true, cond}
use Rattle.tally.specs.declared.Tally.{Tally}

-- a count of 64 bits
abbrev pub counted : ℕ → ℕ
counted n = (n + 1) % 2 ^ 64

abbrev pub none : Tally
none = record { lines = 0; cases = 0; agree = 0; good = true }

-- a line without a case
abbrev pub after_comment : Tally → Tally
after_comment t = record { lines = counted t.lines; cases = t.cases; agree = t.agree; good = t.good }

-- a line with a case
abbrev pub after_case : Tally → Bool → Tally
after_case t agrees =
    record {
      lines = counted t.lines;
      cases = counted t.cases;
      agree = cond agrees (counted t.agree) t.agree;
      good = t.good;
    }

-- the end of the list, or of what is well formed of it
abbrev pub at_end : Tally → Bool → Tally
at_end t good = record { lines = t.lines; cases = t.cases; agree = t.agree; good = good }
