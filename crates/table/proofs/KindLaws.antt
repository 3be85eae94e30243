-- Laws of the kinds of tables: pairs of tasks, the place of refusal 7, and what accepted windows tell.
use Prim.Native.Nat.{ℕ, suc, ◌-◌, ◌≤◌, ◌<◌, max}
use mathlib.Core.Path.{◌≡◌, refl, sym, ap, ap₂, ◌∙◌}
use mathlib.Core.Logic.{◌⊎◌, inl, inr, ⊎_elim, ◌≢◌}
use mathlib.Core.Bool.{Bool, true, false, not, not-not}
use native.Mathlib.Omega.{arith}
use native.Mathlib.Decide.{dec_le, dec_lt}
use lib.Dec.{leb}
use borrow.Author.Tests.{ltb-false, le-ltb, lt-ltb, le-leb, lt-leb, not-true, not-false}
use Rattle.base.specs.Tests.{and, or}
use Rattle.base.specs.Lowest.{lowest, some_below, found}
use Rattle.base.proofs.TestLaws.{cases, both_absurd, and_true, and_left, and_right, or_first, or_second}
use Rattle.base.proofs.LowestLaws.{none_passes, no_some, none_some, some_same, lowest_both}
use Rattle.base.proofs.FoundLaws.{found_lowest, nothing_found}
use Rattle.std.specs.Prelude.{Some, None, Err}
use Rattle.table.specs.declared.Task.{Task}
use Rattle.table.specs.declared.Table.{Table}
use Rattle.table.specs.declared.Refusal.TheVariants.{Window, Kind}
use Rattle.table.specs.Tables.{task_at, Same}
use Rattle.table.specs.Windows.{bad_window, contains, nested, no_later, similar}
use Rattle.table.specs.Kinds.{
  fails_earlier,
  pairwise,
  is_nested,
  is_similar,
  of_neither_kind,
  bad_window_answer,
  kind_answer,
  windows_answer,
  table_windows_answer,
  nesting_answer,
  nested_answer,
}
use Rattle.table.specs.WindowColumns.{greatest_number}
use Rattle.table.specs.Answers.{Answer, Accepted, first_refusal}
use Rattle.table.specs.Writing.{Legal}
use Rattle.table.proofs.AnswerLaws.{first_refusal-known, first_refusal-test, none_refused, refused_none, refused_same}

-- Two windows are nested whichever of the two is named first.
pub nested_sym : (a b : Task) → nested a b ≡ true → nested b a ≡ true
unfolding nested
nested_sym a b e =
    cases (contains b a)
    (λ f. or_first (contains b a) (contains a b) f)
    (λ f.
    cases (contains a b)
    (λ g. or_second (contains b a) (contains a b) f ∙ g)
    (λ g. both_absurd (or (contains a b) (contains b a)) e (or_second (contains a b) (contains b a) g ∙ f)))

-- So are similar ones.
pub similar_sym : (a b : Task) → similar a b ≡ true → similar b a ≡ true
unfolding similar
similar_sym a b e = and_true (no_later b a) (no_later a b) (and_right (no_later a b) (no_later b a) e) (and_left (no_later a b) (no_later b a) e)

-- Similarity by the tests of nesting, with the order of the deadlines exchanged: `r` and `s` compare the releases both ways, `d` and `e` the deadlines.
mirrored_tests : (r s d e : Bool) → or r s ≡ true → or d e ≡ true → and (or s d) (or r e) ≡ or (and r d) (and s e)
mirrored_tests true true d e p q = sym q
mirrored_tests true false true e p q = refl
mirrored_tests true false false e p q = refl
mirrored_tests false true d e p q = refl
mirrored_tests false false d e p q = both_absurd false p refl

-- Of two numbers one is not above the other.
leb_either : (a b : ℕ) → or (leb a b) (leb b a) ≡ true
leb_either a b =
    elim (dec_le a b) [
      | yes l ↦ or_first (leb a b) (leb b a) (le-leb a b l)
      | no l ↦ or_second (leb a b) (leb b a) (lt-leb a b (omega arith)) ∙ le-leb b a (omega arith)
    ]

-- Numbers that are mirrored exchange their order.
leb_mirrored : (g x y : ℕ) → x ≤ g → y ≤ g → leb (g - x) (g - y) ≡ leb y x
leb_mirrored g x y l m =
    elim (dec_le y x) [
      | yes h ↦ le-leb (g - x) (g - y) (omega arith) ∙ sym (le-leb y x h)
      | no h ↦ lt-leb (g - x) (g - y) (omega arith) ∙ sym (lt-leb y x (omega arith))
    ]

-- The window c is the window a with its deadline mirrored.
pub record MirroredWindow (a c : Task) : Type 0 where
  pub release : c.release ≡ a.release
  pub deadline : c.deadline ≡ greatest_number - a.deadline
  pub within_is : a.deadline ≤ greatest_number

-- Two windows are similar exactly where they are nested with their deadlines mirrored.
pub similar_mirrored : (a b c d : Task) → MirroredWindow a c → MirroredWindow b d → similar a b ≡ nested c d
unfolding similar no_later nested contains
similar_mirrored a b c d m n =
    rw (
      m.release,
      n.release,
      m.deadline,
      n.deadline,
      leb_mirrored greatest_number b.deadline a.deadline n.within_is m.within_is,
      leb_mirrored greatest_number a.deadline b.deadline m.within_is n.within_is,
    )
    (mirrored_tests (leb a.release b.release) (leb b.release a.release) (leb a.deadline b.deadline) (leb b.deadline a.deadline)
    (leb_either a.release b.release)
    (leb_either a.deadline b.deadline))

-- Where any two of the first n tasks pass a test of pairs, each passes it with every later one.
pub pairs_known : (pair : Task → Task → Bool) (at : ℕ → Task) (n : ℕ) → pairwise pair at n ≡ true → (j k : ℕ) → j < k → k < n → pair (at j) (at k) ≡ true
unfolding pairwise fails_earlier
pairs_known pair at n e j k l h =
    not-false (pair (at j) (at k))
    (no_some (λ i. not (pair (at i) (at k))) k (no_some (fails_earlier pair at) n (not-true (some_below (fails_earlier pair at) n) e) k h) j l)

-- Where each passes it with every later one, any two do.
pub pairs_test : (pair : Task → Task → Bool) (at : ℕ → Task) (n : ℕ) → ((j k : ℕ) → j < k → k < n → pair (at j) (at k) ≡ true) → pairwise pair at n ≡ true
unfolding pairwise fails_earlier
pairs_test pair at n h = ap not (none_some (fails_earlier pair at) n (λ k l. none_some (λ j. not (pair (at j) (at k))) k (λ j m. ap not (h j k m l))))

-- Where the order of the two is no matter to the test, any two pass it, in either order.
pub any_pairs : (pair : Task → Task → Bool) → ((a b : Task) → pair a b ≡ true → pair b a ≡ true) → (at : ℕ → Task) (n : ℕ) → pairwise pair at n ≡ true
    → (j k : ℕ) → j < n → k < n → j ≢ k → pair (at j) (at k) ≡ true
any_pairs pair turn at n e j k l m d =
    elim (dec_lt j k) [ yes h ↦ pairs_known pair at n e j k h m | no h ↦ turn (at k) (at j) (pairs_known pair at n e k j (omega arith) l) ]

-- Two tests of pairs, each with its tasks, that agree on the task at k and every earlier one fail there alike.
pub fails_alike : (p q : Task → Task → Bool) (f g : ℕ → Task) (k : ℕ) → ((j : ℕ) → j < k → p (f j) (f k) ≡ q (g j) (g k)) → fails_earlier p f k ≡ fails_earlier q g k
unfolding fails_earlier
fails_alike p q f g k h = some_same (λ j. not (p (f j) (f k))) (λ j. not (q (g j) (g k))) k (λ j l. ap not (h j l))

-- Where they agree on all pairs of the first n tasks, any two pass the one where any two pass the other.
pub pairs_alike : (p q : Task → Task → Bool) (f g : ℕ → Task) (n : ℕ) → ((j k : ℕ) → j < k → k < n → p (f j) (f k) ≡ q (g j) (g k))
    → pairwise p f n ≡ pairwise q g n
unfolding pairwise
pairs_alike p q f g n h =
    ap not (some_same (fails_earlier p f) (fails_earlier q g) n (λ k l. fails_alike p q f g k (λ j m. h j k m l)))

-- The place of refusal 7: the higher of the first position that is not nested with some earlier one and the first that is not similar to some earlier
-- one; it is n, and nothing is refused, where there is no such position for one of the two.
pub neither_place : (at : ℕ → Task) (n : ℕ) → lowest (of_neither_kind at) n ≡ max (lowest (fails_earlier nested at) n) (lowest (fails_earlier similar at) n)
unfolding of_neither_kind pairwise
neither_place at n =
    lowest_both (fails_earlier nested at) (fails_earlier similar at) (of_neither_kind at) n (λ k l.
    ap₂ and (not-not (some_below (fails_earlier nested at) (suc k))) (not-not (some_below (fails_earlier similar at) (suc k))))

-- So it is the higher of the two where both are found.
pub neither_refused : (at : ℕ → Task) (n crossing dissimilar : ℕ) → Some crossing ≡ found (fails_earlier nested at) n → Some dissimilar ≡ found (fails_earlier similar at) n
    → Err (Kind (max crossing dissimilar)) ≡ kind_answer at n
unfolding kind_answer
neither_refused at n crossing dissimilar e f =
    let first = found_lowest (fails_earlier nested at) n crossing e in
    let second = found_lowest (fails_earlier similar at) n dissimilar f in
    let place : lowest (of_neither_kind at) n ≡ max crossing dissimilar = omega (arith, neither_place at n) in
    rw (place, lt-ltb (max crossing dissimilar) n (omega arith))

-- Document 01's place of 7, for nested tables alone, is never higher.
pub nesting_first : (at : ℕ → Task) (n : ℕ) → lowest (fails_earlier nested at) n ≤ lowest (of_neither_kind at) n
nesting_first at n = omega (arith, neither_place at n)

-- Any two of the first n tasks pass a test of pairs exactly where the search for a task that fails it ends at n.
pairs_found : (pair : Task → Task → Bool) (at : ℕ → Task) (n : ℕ) → n ≤ lowest (fails_earlier pair at) n → pairwise pair at n ≡ true
unfolding pairwise some_below
pairs_found pair at n l = ap not (le-ltb (lowest (fails_earlier pair at) n) n l)

found_pairs : (pair : Task → Task → Bool) (at : ℕ → Task) (n : ℕ) → pairwise pair at n ≡ true → n ≤ lowest (fails_earlier pair at) n
unfolding pairwise some_below
found_pairs pair at n e = ltb-false (lowest (fails_earlier pair at) n) n (not-true (some_below (fails_earlier pair at) n) e)

-- So they do where no such task is found.
pub pairs_unfound : (pair : Task → Task → Bool) (at : ℕ → Task) (n : ℕ) → None ≡ found (fails_earlier pair at) n → pairwise pair at n ≡ true
pairs_unfound pair at n e = pairs_found pair at n (nothing_found (fails_earlier pair at) n e)

-- Tasks to which 7 is not sent are of one kind or the other.
pub kind_known : (at : ℕ → Task) (n : ℕ) → kind_answer at n ≡ Accepted → (pairwise nested at n ≡ true) ⊎ (pairwise similar at n ≡ true)
unfolding kind_answer
kind_known at n e =
    let none : lowest (of_neither_kind at) n ≡ n = none_passes (of_neither_kind at) n (refused_none Kind (of_neither_kind at) n e) in
    elim (dec_le n (lowest (fails_earlier nested at) n)) [
      | yes l ↦ inl (pairs_found nested at n l)
      | no l ↦ inr (pairs_found similar at n (omega (arith, neither_place at n)))
    ]

-- To tasks of one kind or the other 7 is not sent.
pub kind_test : (at : ℕ → Task) (n : ℕ) → (pairwise nested at n ≡ true) ⊎ (pairwise similar at n ≡ true) → kind_answer at n ≡ Accepted
unfolding kind_answer
kind_test at n s =
    let end : n ≤ lowest (of_neither_kind at) n =
    ⊎_elim (λ e. omega (arith, neither_place at n, found_pairs nested at n e)) (λ e. omega (arith, neither_place at n, found_pairs similar at n e)) s in
    rw (le-ltb (lowest (of_neither_kind at) n) n end)

-- A nested table is accepted as it was before there was a second kind.
pub nested_accepted : (t : Table) → is_nested t ≡ true → kind_answer (task_at t) t.count ≡ Accepted
unfolding is_nested
nested_accepted t e = kind_test (task_at t) t.count (inl e)

-- The windows of two runs of tasks stand alike below n: the same are bad, and the same two are nested, and similar.
pub record Alike (f g : ℕ → Task) (n : ℕ) : Type 0 where
  pub bad : (k : ℕ) → k < n → bad_window (f k) ≡ bad_window (g k)
  pub nesting : (j k : ℕ) → j < k → k < n → nested (f j) (f k) ≡ nested (g j) (g k)
  pub similarity : (j k : ℕ) → j < k → k < n → similar (f j) (f k) ≡ similar (g j) (g k)

-- Tasks with the same frames stand alike.
pub frames_alike : (f g : ℕ → Task) (n : ℕ) → ((k : ℕ) → k < n → ((f k).release ≡ (g k).release) × ((f k).deadline ≡ (g k).deadline)) → Alike f g n
unfolding bad_window nested contains similar no_later
frames_alike f g n h =
    record {
      bad = λ k l. rw ((h k l).0, (h k l).1);
      nesting = λ j k l m. let i : j < n = omega arith in rw ((h j i).0, (h j i).1, (h k m).0, (h k m).1);
      similarity = λ j k l m. let i : j < n = omega arith in rw ((h j i).0, (h j i).1, (h k m).0, (h k m).1);
    }

-- Where they stand alike, 6 is sent to both or to neither, with the same place,
pub bad_window_alike : {f g : ℕ → Task} {n : ℕ} → Alike f g n → bad_window_answer f n ≡ bad_window_answer g n
unfolding bad_window_answer
bad_window_alike {f} {g} {n} a = refused_same Window (λ k. bad_window (f k)) (λ k. bad_window (g k)) n a.bad

-- and so is 7,
pub kind_alike : {f g : ℕ → Task} {n : ℕ} → Alike f g n → kind_answer f n ≡ kind_answer g n
unfolding kind_answer of_neither_kind
kind_alike {f} {g} {n} a =
    refused_same Kind (of_neither_kind f) (of_neither_kind g) n (λ k l.
    ap₂ and
    (ap not (pairs_alike nested nested f g (suc k) (λ i j h m. a.nesting i j h (omega arith))))
    (ap not (pairs_alike similar similar f g (suc k) (λ i j h m. a.similarity i j h (omega arith)))))

-- and so they are answered alike.
pub windows_alike : {f g : ℕ → Task} {n : ℕ} → Alike f g n → windows_answer f n ≡ windows_answer g n
unfolding windows_answer
windows_alike a = rw (bad_window_alike a, kind_alike a)

-- So they are by the rules of a form that is nested alone, with the same answer of its own rule.
pub nested_alike : (own : Answer) {f g : ℕ → Task} {n : ℕ} → Alike f g n → nested_answer own f n ≡ nested_answer own g n
unfolding nested_answer nesting_answer
nested_alike own {f} {g} {n} a =
    let crossing = refused_same Kind (fails_earlier nested f) (fails_earlier nested g) n (λ k l. fails_alike nested nested f g k (λ j m. a.nesting j k m l)) in
    rw (bad_window_alike a, crossing)

-- Tables that are the same have windows that stand alike,
same_alike : {a b : Table} → Same a b → Alike (task_at a) (task_at b) a.count
same_alike {a} {b} s =
    frames_alike (task_at a) (task_at b) a.count (λ k l. (ap (λ (x : Task). x.release) (s.tasks k l), ap (λ (x : Task). x.deadline) (s.tasks k l)))

-- and so they are answered alike.
pub window_same : {a b : Table} → Same a b → table_windows_answer a ≡ table_windows_answer b
unfolding table_windows_answer
window_same {a} {b} s = windows_alike (same_alike s) ∙ ap (windows_answer (task_at b)) s.count

pub nested_same : (own : Answer) {a b : Table} → Same a b → nested_answer own (task_at a) a.count ≡ nested_answer own (task_at b) b.count
nested_same own {a} {b} s = nested_alike own (same_alike s) ∙ ap (nested_answer own (task_at b)) s.count

-- What the windows tell when they are accepted: none is bad, and the table is nested or similar.
pub record WindowsKnown (t : Table) : Type 0 where
  pub good : (k : ℕ) → k < t.count → bad_window (task_at t k) ≡ false
  pub kind : (is_nested t ≡ true) ⊎ (is_similar t ≡ true)

-- Windows that are accepted are so.
pub window_known : (t : Table) → table_windows_answer t ≡ Accepted → WindowsKnown t
unfolding table_windows_answer windows_answer bad_window_answer is_nested is_similar
window_known t e =
    let z = first_refusal-known (bad_window_answer (task_at t) t.count) (kind_answer (task_at t) t.count) e in
    record {
      good = refused_none Window (λ k. bad_window (task_at t k)) t.count z.0;
      kind = kind_known (task_at t) t.count z.1;
    }

-- Windows of which that holds are accepted.
pub window_test : (t : Table) → WindowsKnown t → table_windows_answer t ≡ Accepted
unfolding table_windows_answer windows_answer bad_window_answer is_nested is_similar
window_test t w =
    first_refusal-test (bad_window_answer (task_at t) t.count) (kind_answer (task_at t) t.count)
    (none_refused Window (λ k. bad_window (task_at t k)) t.count w.good)
    (kind_test (task_at t) t.count w.kind)

-- A table whose windows are accepted and that is not nested is similar.
pub similar_where : (t : Table) → table_windows_answer t ≡ Accepted → is_nested t ≡ false → is_similar t ≡ true
similar_where t e n = ⊎_elim (λ i. both_absurd (is_nested t) i n) (λ i. i) (window_known t e).kind

-- The window at a position of a legal table is not bad.
pub legal_windows : (t : Table) → Legal t → (k : ℕ) → k < t.count → bad_window (task_at t k) ≡ false
legal_windows t l = (window_known t l.windows).good

-- A legal table that is not nested is similar.
pub legal_similar : (t : Table) → Legal t → is_nested t ≡ false → is_similar t ≡ true
legal_similar t l = similar_where t l.windows

-- What the rules of a form that is nested alone tell of a table when they refuse nothing: no window is bad, the form's own rule refuses nothing, and the
-- table is nested.
pub record NestedKnown (own : Answer) (t : Table) : Type 0 where
  pub good : (k : ℕ) → k < t.count → bad_window (task_at t k) ≡ false
  pub ruled : own ≡ Accepted
  pub nesting : is_nested t ≡ true

-- A table of which they refuse nothing is so,
pub nested_known : (own : Answer) (t : Table) → nested_answer own (task_at t) t.count ≡ Accepted → NestedKnown own t
unfolding nested_answer bad_window_answer nesting_answer is_nested
nested_known own t e =
    let at : ℕ → Task = task_at t in
    let z = first_refusal-known (bad_window_answer at t.count) (first_refusal own (nesting_answer at t.count)) e in
    let rest = first_refusal-known own (nesting_answer at t.count) z.1 in
    let none = none_passes (fails_earlier nested at) t.count (refused_none Kind (fails_earlier nested at) t.count rest.1) in
    record {
      good = refused_none Window (λ k. bad_window (at k)) t.count z.0;
      ruled = rest.0;
      nesting = pairs_found nested at t.count (omega (arith, none));
    }

-- and as a table of document 01 its windows are accepted.
pub nested_windows : (own : Answer) (t : Table) → nested_answer own (task_at t) t.count ≡ Accepted → table_windows_answer t ≡ Accepted
nested_windows own t e = let z = nested_known own t e in window_test t (record { good = z.good; kind = inl z.nesting })
