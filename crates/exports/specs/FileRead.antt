-- The replies of reading as C gets them.
use Rattle.std.specs.Prelude.{ℕ, List}
use Rattle.table.specs.Answers.{number_of, place_of}
use Rattle.table.specs.Reading.{read_reply}
use Rattle.weighted_file.specs.Weights.{weighted_read_reply}
use Rattle.exports.specs.declared.TableRead.{TableRead}
use Rattle.exports.specs.declared.WeightedTableRead.{WeightedTableRead}

-- of a file: the number and the place of reading's answer, and the table, which is 0 throughout on a refusal
unfoldable pub read_in_c : List ℕ → TableRead
read_in_c file = record { number = number_of (read_reply file).answer; place = place_of (read_reply file).answer; table = (read_reply file).table }

-- of a weighted file: the same, with the weighted table
unfoldable pub weighted_read_in_c : List ℕ → WeightedTableRead
weighted_read_in_c file =
    record {
      number = number_of (weighted_read_reply file).answer;
      place = place_of (weighted_read_reply file).answer;
      table = (weighted_read_reply file).weighted;
    }
