-- `conversion::put_numbers` meets its contract: each part stands behind the one before it.
use Rattle.lines.specs.Text.{line}
use Rattle.lines.proofs.PutLaws.{put_three}
use Rattle.conversion.proofs.put_numbers.Goals as goal

pub returns : goal.returns
unfolding line
returns c =
    put_three _ _ _ _ _ _ _ _ _ _ _ c.requires c.put_decimal-next.ensures c.put_fields-end.ensures c.put_byte.ensures
