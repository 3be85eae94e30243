-- `cases::fields::from_field` meets its contract: what is left is no longer than the line.
use Rattle.std.proofs.Common.{◌≤◌, length}
use Rattle.cases.proofs.fields.from_field.Given as goal

abbrev pub invariant-loop : goal.invariant-loop
invariant-loop l = length l.rest ≤ length l.line
