-- Tests, and what a test picks: the library's `cond`, `&&` and `||`, written in front of their arguments.
use Rattle.std.specs.Prelude.{Bool, cond, ◌&&◌, ◌||◌}

-- the first of two where the test holds, and else the second
abbrev pub pick : {A : Type 0} → Bool → A → A → A
pick = cond

-- both tests hold
abbrev pub and : Bool → Bool → Bool
and = ◌&&◌

-- at least one test holds
abbrev pub or : Bool → Bool → Bool
or = ◌||◌
