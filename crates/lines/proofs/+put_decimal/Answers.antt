use mathlib.Core.Path.{ap}
use native.Mathlib.Omega.{arith}
use lib.ListN.{length}
use Rattle.lines.proofs.PutLaws.{put_join}
use Rattle.lines.proofs.DecimalLaws.{decimal_low, decimal_high, longer_by_one}
use Rattle.lines.proofs.+put_decimal.Goals as goal

pub put_byte-requires : goal.put_byte-requires
put_byte-requires t c = omega (arith, ap length (decimal_low c.args.n (omega arith)))

pub returns-then-n-lt10 : goal.returns-then-n-lt10
returns-then-n-lt10 t c = rw (decimal_low c.args.n (omega arith)) c.put_byte.ensures

pub put_decimal-next-requires : goal.put_decimal-next-requires
put_decimal-next-requires t c = omega (arith, longer_by_one c.args.n (omega arith) (omega arith))

pub put_byte-requires-2 : goal.put_byte-requires-2
put_byte-requires-2 t c = omega (arith, longer_by_one c.args.n (omega arith) (omega arith), c.put_decimal-next.ensures.next_is)

pub returns : goal.returns
returns t c =
    let digits = decimal_high c.args.n (omega arith) (omega arith) in
    rw digits (put_join _ _ _ _ _ _ _ _ (rw digits at c.requires) c.put_decimal-next.ensures c.put_byte-2.ensures)
