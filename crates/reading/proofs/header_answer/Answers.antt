-- `reading::header_answer` meets its contract: each return knows the tests that led there, in their order.
use Rattle.std.proofs.Common.{◌∙◌, sym, arith, length}
use borrow.Author.Tests.{lt-ltb, le-ltb}
use Rattle.table.specs.Layout.{rows_length}
use Rattle.table.proofs.RowFiles.{count_known}
use Rattle.reading.proofs.FrontLaws.{from_header}
use Rattle.reading.proofs.header_answer.Goals as goal

pub returns-then-bad_count : goal.returns-then-bad_count
returns-then-bad_count c =
    rw (from_header _ _ _ c.requires.in_bounds c.requires.header_of, sym c.bad_count.ensures ∙ c.if-bad_count.true)

pub rows_length-needed-requires : goal.rows_length-needed-requires
rows_length-needed-requires c =
    record {
      width_le_widest_row = c.requires.width_le_widest_row;
      count_le_max_tasks = (count_known c.args.header.count (sym c.bad_count.ensures ∙ c.if-bad_count.false)).1;
    }

pub returns-then-length-needed : goal.returns-then-length-needed
returns-then-length-needed c =
    rw (
      from_header _ _ _ c.requires.in_bounds c.requires.header_of,
      sym c.bad_count.ensures ∙ c.if-bad_count.false,
      lt-ltb (length c.args.file.now) (rows_length c.args.width c.args.header.count) (omega (arith, c.rows_length-needed.ensures)),
    )

pub returns-then-needed-length : goal.returns-then-needed-length
returns-then-needed-length c =
    rw (
      from_header _ _ _ c.requires.in_bounds c.requires.header_of,
      sym c.bad_count.ensures ∙ c.if-bad_count.false,
      ← c.rows_length-needed.ensures,
      le-ltb _ _ c.if-length-needed.false,
      lt-ltb _ _ c.if-needed-length.true,
    )

pub padding_set-requires : goal.padding_set-requires
padding_set-requires c =
    record {
      width_le_widest_row = c.requires.width_le_widest_row;
      count_le_max_tasks = (count_known c.args.header.count (sym c.bad_count.ensures ∙ c.if-bad_count.false)).1;
      file_len = omega (arith, c.rows_length-needed.ensures);
    }

pub returns-then-padding_set : goal.returns-then-padding_set
returns-then-padding_set c =
    rw (
      from_header _ _ _ c.requires.in_bounds c.requires.header_of,
      sym c.bad_count.ensures ∙ c.if-bad_count.false,
      ← c.rows_length-needed.ensures,
      le-ltb _ _ c.if-length-needed.false,
      le-ltb _ _ c.if-needed-length.false,
      sym c.padding_set.ensures ∙ c.if-padding_set.true,
    )

pub returns-then-bad_period : goal.returns-then-bad_period
returns-then-bad_period c =
    rw (
      from_header _ _ _ c.requires.in_bounds c.requires.header_of,
      sym c.bad_count.ensures ∙ c.if-bad_count.false,
      ← c.rows_length-needed.ensures,
      le-ltb _ _ c.if-length-needed.false,
      le-ltb _ _ c.if-needed-length.false,
      sym c.padding_set.ensures ∙ c.if-padding_set.false,
      sym c.bad_period.ensures ∙ c.if-bad_period.true,
    )

pub returns : goal.returns
returns c =
    rw (
      from_header _ _ _ c.requires.in_bounds c.requires.header_of,
      sym c.bad_count.ensures ∙ c.if-bad_count.false,
      ← c.rows_length-needed.ensures,
      le-ltb _ _ c.if-length-needed.false,
      le-ltb _ _ c.if-needed-length.false,
      sym c.padding_set.ensures ∙ c.if-padding_set.false,
      sym c.bad_period.ensures ∙ c.if-bad_period.false,
    )
