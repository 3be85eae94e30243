-- Texts that samples write as strings: their bytes in ASCII.
use Rattle.std.specs.Prelude.{ℕ, List, [], ◌∷◌, ◌++◌}
use Prim.Native.Char.{code}
use Prim.Native.String.{String, [] as noText, ◌∷◌ as ◌then◌}

-- the bytes of a text: the code of each letter
unfoldable pub ascii : String → List ℕ
ascii noText = []
ascii (letter then text) = code letter ∷ ascii text

-- the bytes of lines, a newline after each
unfoldable pub text_of : List String → List ℕ
text_of [] = []
text_of (line ∷ lines) = ascii line ++ ascii "\n" ++ text_of lines
