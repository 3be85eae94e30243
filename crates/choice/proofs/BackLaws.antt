-- Laws of the way back, over a worth of each optional part: a test that says where each job is kept, such as its rank, gives the marks that are read back
-- from the rows.
use Prim.Native.Nat.{ℕ, zero, suc, ◌+◌, ◌-◌, ◌≤◌, ◌<◌}
use mathlib.Core.Path.{◌≡◌, refl, sym, ap, ◌∙◌}
use mathlib.Core.List.{List, [], ◌∷◌}
use mathlib.Core.Bool.{Bool, true, false}
use native.Mathlib.Omega.{arith}
use native.Mathlib.Numerals.{add-one}
use lib.Dec.{eqb}
use lib.ListN.{length, get_or, set, drop, replicate, length-set}
use lib.Seq.{get_or-set_same}
use borrow.Author.Tests.{leb-true, leb-false, eq-eqb, ne_eqb}
use Rattle.base.specs.Limits.{max_tasks}
use Rattle.base.specs.Places.{places}
use Rattle.base.specs.Arrays.{first_places}
use Rattle.base.proofs.PlaceLaws.{places_length, places_is, left_start, left_step}
use Rattle.base.proofs.ArrayFilling.{Filled, filled_start, filled_set}
use Rattle.base.proofs.TestLaws.{pick_cases}
use Rattle.schedule.specs.declared.Job.{Job}
use Rattle.choice.specs.Programme.{keeping, backtrack}
use Rattle.choice.specs.Decisions.{huge_ticks, row_over, back_over, keeps_over, jobs_from, DecidedBy}
use Rattle.choice.proofs.ProgrammeLaws.{row_is, keeping_is}

-- what a list has at place i and after it, from what is left at i
pub left_head : (l : List Bool) (i : ℕ) (x : Bool) (r : List Bool) → drop i l ≡ x ∷ r → (get_or l i false ≡ x) × (drop (suc i) l ≡ r)
left_head l zero x r e = (rw e, rw e)
left_head [] (suc i) x r e = let z : ◌≡◌ {A = ℕ} 0 1 = cc in absurd (omega arith)
left_head (y ∷ l) (suc i) x r e = left_head l i x r e

module _ (worth : Job → ℕ) where
  -- the marks where a job is kept, and the row inside it, which is below huge
  pub back_kept : (job : Job) (jobs : List Job) (v : ℕ) → row_over worth (job ∷ jobs) v < huge_ticks → keeps_over worth job (row_over worth jobs) v ≡ true
      → (back_over worth (job ∷ jobs) v ≡ true ∷ back_over worth jobs (v - worth job)) × (worth job ≤ v) × (row_over worth jobs (v - worth job) < huge_ticks)
  unfolding backtrack keeps_over
  back_kept job jobs v l e =
      let a = row_is worth huge_ticks job jobs v (row_over worth (job ∷ jobs) v) refl l in
      let s = leb-true (keeping worth huge_ticks job (row_over worth jobs) v) (row_over worth jobs v) e in
      let q : keeping worth huge_ticks job (row_over worth jobs) v ≡ row_over worth (job ∷ jobs) v = omega arith in
      let b = keeping_is worth huge_ticks job (row_over worth jobs) v (row_over worth (job ∷ jobs) v) q l in
      (rw (eq-eqb _ _ q, b.2), b.0, omega arith)

  -- and where it is discarded
  pub back_discarded : (job : Job) (jobs : List Job) (v : ℕ) → row_over worth (job ∷ jobs) v < huge_ticks → keeps_over worth job (row_over worth jobs) v ≡ false
      → (back_over worth (job ∷ jobs) v ≡ false ∷ back_over worth jobs v) × (row_over worth jobs v < huge_ticks)
  unfolding backtrack keeps_over
  back_discarded job jobs v l e =
      let a = row_is worth huge_ticks job jobs v (row_over worth (job ∷ jobs) v) refl l in
      let s = leb-false (keeping worth huge_ticks job (row_over worth jobs) v) (row_over worth jobs v) e in
      let q : row_over worth jobs v ≡ row_over worth (job ∷ jobs) v = omega arith in
      (rw (ne_eqb (keeping worth huge_ticks job (row_over worth jobs) v) (row_over worth (job ∷ jobs) v) (λ h. absurd (omega arith)), q), omega arith)

  -- there is one mark a job
  pub back_length : (jobs : List Job) (v x : ℕ) → length (backtrack worth huge_ticks jobs v x) ≡ length jobs
  unfolding backtrack
  back_length [] v x = refl
  back_length (job ∷ jobs) v x =
      pick_cases (λ (l : List Bool). length l ≡ suc (length jobs)) (eqb (keeping worth huge_ticks job (row_over worth jobs) v) x)
      (λ e. ap suc (back_length jobs (v - worth job) (x - job.optional))) (λ e. ap suc (back_length jobs v x))

-- The walk over the jobs from the outermost inwards, at the worth v that is left to keep, `limit` at most: the marks of the jobs before place i are written,
-- the others are read back from there.
pub record Walked (worth : Job → ℕ) (at : ℕ → Job) (count limit : ℕ) (marks : List Bool) (i v : ℕ) (keeps : List Bool) : Type 0 where
  pub within_is : i ≤ count
  pub most : v ≤ limit
  pub below : row_over worth (jobs_from at count i) v < huge_ticks
  pub left : drop i marks ≡ back_over worth (jobs_from at count i) v
  pub filled : Filled false (λ k. get_or marks k false) max_tasks count i keeps

module _ (worth : Job → ℕ) (at : ℕ → Job) (count limit : ℕ) where
  -- the walk begins
  pub walked_start : (v : ℕ) → v ≤ limit → row_over worth (places at count) v < huge_ticks
      → Walked worth at count limit (back_over worth (places at count) v) 0 v (replicate max_tasks false)
  walked_start v m l =
      record {
        within_is = omega arith;
        most = m;
        below = rw (left_start at count) l;
        left = rw (left_start at count);
        filled = filled_start _ _ _ _;
      }

  -- what the test says: where the row is below huge, it is the decision
  pub walked_decision : (test : ℕ → ℕ → Bool) (marks : List Bool) (i v : ℕ) (keeps : List Bool) → Walked worth at count limit marks i v keeps → i < count
      → DecidedBy worth at count 0 test → test i v ≡ keeps_over worth (at i) (row_over worth (jobs_from at count (i + 1))) v
  walked_decision test marks i v keeps f l d = d.decided i (omega arith) l v f.below

  -- one mark is written
  walked_step : (marks : List Bool) (i v w : ℕ) (keeps : List Bool) (x : Bool) → count ≤ max_tasks → Walked worth at count limit marks i v keeps → i < count
      → w ≤ v → back_over worth (at i ∷ jobs_from at count (i + 1)) v ≡ x ∷ back_over worth (jobs_from at count (i + 1)) w
      → row_over worth (jobs_from at count (i + 1)) w < huge_ticks → Walked worth at count limit marks (i + 1) w (set keeps i x)
  walked_step marks i v w keeps x m f l n e b =
      let h = left_head marks i x (back_over worth (jobs_from at count (i + 1)) w) (f.left ∙ rw (left_step at count i l) e) in
      record {
        within_is = omega arith;
        most = omega (arith, f.most);
        below = b;
        left = rw add-one (rw add-one at h.1);
        filled = filled_set _ _ _ _ _ _ _ (omega arith) l (sym h.0) f.filled;
      }

  -- a job is kept
  pub walked_kept : (marks : List Bool) (i v : ℕ) (keeps : List Bool) (x : Bool) → count ≤ max_tasks → Walked worth at count limit marks i v keeps → i < count
      → x ≡ keeps_over worth (at i) (row_over worth (jobs_from at count (i + 1))) v → x ≡ true
      → (worth (at i) ≤ v) × Walked worth at count limit marks (i + 1) (v - worth (at i)) (set keeps i x)
  walked_kept marks i v keeps x m f l e t =
      let s = back_kept worth (at i) (jobs_from at count (i + 1)) v (rw (left_step at count i l) at f.below) (sym e ∙ t) in
      (s.1, rw t (walked_step marks i v (v - worth (at i)) keeps true m f l (omega arith) s.0 s.2))

  -- a job is discarded
  pub walked_discarded : (marks : List Bool) (i v : ℕ) (keeps : List Bool) (x : Bool) → count ≤ max_tasks → Walked worth at count limit marks i v keeps
      → i < count → x ≡ keeps_over worth (at i) (row_over worth (jobs_from at count (i + 1))) v → x ≡ false
      → Walked worth at count limit marks (i + 1) v (set keeps i x)
  walked_discarded marks i v keeps x m f l e t =
      let s = back_discarded worth (at i) (jobs_from at count (i + 1)) v (rw (left_step at count i l) at f.below) (sym e ∙ t) in
      rw t (walked_step marks i v v keeps false m f l (omega arith) s.0 s.1)

  -- the mark that was written is that of the list
  pub walked_mark : (marks : List Bool) (i w : ℕ) (keeps : List Bool) (x : Bool) → count ≤ max_tasks → Walked worth at count limit marks (i + 1) w (set keeps i x)
      → i < count → get_or marks i false ≡ x
  walked_mark marks i w keeps x m f l =
      sym (f.filled.before i (omega arith) l (omega arith))
      ∙ get_or-set_same keeps i x false (omega (arith, length-set keeps i x, f.filled.length_is))

  -- every mark is written
  pub walked_end : (w i v : ℕ) (keeps : List Bool) → count ≤ max_tasks → Walked worth at count limit (back_over worth (places at count) w) i v keeps → count ≤ i
      → first_places false keeps count ≡ back_over worth (places at count) w
  walked_end w i v keeps m f l =
      sym (places_is (λ k. get_or keeps k false) count false (back_over worth (places at count) w)
      (back_length worth (places at count) w _ ∙ places_length at count)
      (λ k n. sym (f.filled.before k (omega arith) n (omega arith))))
