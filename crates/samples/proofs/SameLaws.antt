-- Laws of the tests: what passes them is equal.
use Prim.Native.Nat.{ℕ}
use mathlib.Core.Path.{◌≡◌, refl, sym, ap, ap₂, ◌∙◌}
use mathlib.Core.Bool.{Bool, true, false}
use mathlib.Core.List.{List, [], ◌∷◌}
use lib.Dec.{eqb}
use lib.ListN.{get_or}
use borrow.Author.Tests.{eqb-true}
use Rattle.base.specs.Tests.{and}
use Rattle.base.specs.Members.{All, every_member}
use Rattle.base.proofs.TestLaws.{and_left, and_right, both_absurd}
use Rattle.table.specs.declared.Task.{Task}
use Rattle.table.specs.declared.Table.{Table}
use Rattle.table.specs.declared.Written.{Written}
use Rattle.table.specs.Tables.{task_row, task_of}
use Rattle.schedule.specs.declared.Run.{Run}
use Rattle.schedule.specs.declared.Judged.{Judged}
use Rattle.schedule.specs.declared.Busy.{Busy}
use Rattle.schedule.specs.Ticks.{one_if}
use Rattle.schedule.specs.Runs.{starts_of, ends_of, tasks_of}
use Rattle.schedule.proofs.ColumnLaws.{columns_runs}
use Rattle.plans.specs.declared.Planned.{Planned}
use Rattle.plans.specs.Planning.{LentLists, lent}
use Rattle.samples.specs.SampleTests.{numbers_equal, runs_equal, tasks_equal, header, tables_equal, lists_equal, plan_parts, written_parts, judged_parts, busy_parts}

-- what every row says, from a test that every row passes
pub pass_all : {A : Type 0} (P : A → Type 0) (test : A → Bool) (rows : List A) → ((row : A) → test row ≡ true → P row) → every_member test rows ≡ true → All P rows
unfolding every_member
pass_all P test [] says e = tt
pass_all P test (row ∷ rows) says e =
    (says row (and_left (test row) (every_member test rows) e), pass_all P test rows says (and_right (test row) (every_member test rows) e))

-- what two tests say where both hold, and three where all do
pub both : {P Q : Type 0} (a b : Bool) → (a ≡ true → P) → (b ≡ true → Q) → and a b ≡ true → P × Q
both a b p q e = (p (and_left a b e), q (and_right a b e))

pub three : {P Q R : Type 0} (a b c : Bool) → (a ≡ true → P) → (b ≡ true → Q) → (c ≡ true → R) → and a (and b c) ≡ true → P × Q × R
three a b c p q r e = let rest = and_right a (and b c) e in (p (and_left a (and b c) e), q (and_left b c rest), r (and_right b c rest))

-- lists of numbers
pub numbers_same : (a b : List ℕ) → numbers_equal a b ≡ true → a ≡ b
unfolding numbers_equal
numbers_same [] [] e = refl
numbers_same [] (y ∷ b) e = both_absurd false e refl
numbers_same (x ∷ a) [] e = both_absurd false e refl
numbers_same (x ∷ a) (y ∷ b) e =
    let z = both (eqb x y) (numbers_equal a b) (eqb-true x y) (numbers_same a b) e in ap₂ (λ (n : ℕ) (l : List ℕ). n ∷ l) z.0 z.1

-- lists of runs
pub runs_same : (a b : List Run) → runs_equal a b ≡ true → a ≡ b
unfolding runs_equal
runs_same a b e =
    let z =
    three (numbers_equal (starts_of a) (starts_of b)) (numbers_equal (ends_of a) (ends_of b)) (numbers_equal (tasks_of a) (tasks_of b)) (numbers_same _ _)
    (numbers_same _ _) (numbers_same _ _) e in
    sym (columns_runs a) ∙ rw (z.0, z.1, z.2) (columns_runs b)

-- lists of tasks, and tables
tasks_same : (a b : List Task) → tasks_equal a b ≡ true → a ≡ b
unfolding tasks_equal
tasks_same [] [] e = refl
tasks_same [] (y ∷ b) e = both_absurd false e refl
tasks_same (x ∷ a) [] e = both_absurd false e refl
tasks_same (x ∷ a) (y ∷ b) e =
    let z = both (numbers_equal (task_row x) (task_row y)) (tasks_equal a b) (numbers_same (task_row x) (task_row y)) (tasks_same a b) e in
    ap₂ (λ (row : List ℕ) (l : List Task). task_of row ∷ l) z.0 z.1

pub table_same : (a b : Table) → tables_equal a b ≡ true → a ≡ b
unfolding tables_equal
table_same a b e =
    let z = both (numbers_equal (header a) (header b)) (tasks_equal a.tasks b.tasks) (numbers_same _ _) (tasks_same _ _) e in
    ap₂ {C = Table} (λ (l : List ℕ) (tasks : List Task). record { count = get_or l 0 0; p = get_or l 1 0; q = get_or l 2 0; tasks = tasks }) z.0 z.1

-- lent lists
pub lists_same : (a b : LentLists) → lists_equal a b ≡ true → a ≡ b
unfolding lists_equal
lists_same a b e =
    let z =
    both (and (numbers_equal a.marks b.marks) (numbers_equal a.starts b.starts))
    (and (numbers_equal a.ends b.ends) (numbers_equal a.tasks b.tasks))
    (both (numbers_equal a.marks b.marks) (numbers_equal a.starts b.starts) (numbers_same _ _) (numbers_same _ _))
    (both (numbers_equal a.ends b.ends) (numbers_equal a.tasks b.tasks) (numbers_same _ _) (numbers_same _ _))
    e in
    ap₂ {C = LentLists} (λ (marks starts : List ℕ). lent marks starts a.ends a.tasks) z.0.0 z.0.1
    ∙ ap₂ {C = LentLists} (λ (ends tasks : List ℕ). lent b.marks b.starts ends tasks) z.1.0 z.1.1

-- replies, by their parts
pub planned_same : (a b : Planned) → numbers_equal (plan_parts a) (plan_parts b) ≡ true → a ≡ b
planned_same a b e =
    ap {B = Planned} (λ (l : List ℕ). record { number = get_or l 0 0; place = get_or l 1 0; kept = get_or l 2 0; discarded = get_or l 3 0; runs = get_or l 4 0 })
    (numbers_same _ _ e)

pub written_same : (a b : Written) → numbers_equal (written_parts a) (written_parts b) ≡ true → a ≡ b
written_same a b e = ap {B = Written} (λ (l : List ℕ). record { number = get_or l 0 0; place = get_or l 1 0; bytes = get_or l 2 0 }) (numbers_same _ _ e)

pub busy_same : (a b : Busy) → numbers_equal (busy_parts a) (busy_parts b) ≡ true → a ≡ b
busy_same a b e = ap {B = Busy} (λ (l : List ℕ). record { number = get_or l 0 0; place = get_or l 1 0; ticks = get_or l 2 0 }) (numbers_same _ _ e)

-- a verdict is what its number says, and so a reply of judging is what its parts say
verdict_back : (yes : Bool) → eqb (one_if yes) 1 ≡ yes
verdict_back true = refl
verdict_back false = refl

judged_of : List ℕ → Judged
judged_of l = record { number = get_or l 0 0; place = get_or l 1 0; yes = eqb (get_or l 2 0) 1; kept = get_or l 3 0; discarded = get_or l 4 0 }

judged_back : (r : Judged) → judged_of (judged_parts r) ≡ r
unfolding judged_of
judged_back r =
    ap {B = Judged} (λ (yes : Bool). record { number = r.number; place = r.place; yes = yes; kept = r.kept; discarded = r.discarded })
    (verdict_back r.yes)

pub judged_same : (a b : Judged) → numbers_equal (judged_parts a) (judged_parts b) ≡ true → a ≡ b
judged_same a b e = sym (judged_back a) ∙ (ap judged_of (numbers_same _ _ e) ∙ judged_back b)
