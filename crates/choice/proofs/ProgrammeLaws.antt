-- Laws of the rows: each number of a row is the least, and the marks read back from the rows reach it and follow the tie rule.
use Prim.Native.Nat.{ℕ, zero, suc, ◌+◌, ◌-◌, ◌≤◌, ◌<◌, min}
use mathlib.Core.Path.{◌≡◌, refl}
use mathlib.Core.Logic.{◌≢◌}
use mathlib.Core.List.{List, [], ◌∷◌}
use mathlib.Core.Bool.{Bool, true, false}
use native.Mathlib.Nat.{zero-add, add-sub_cancel_left}
use native.Mathlib.Omega.{arith}
use native.Mathlib.Decide.{dec_lt, ℕ_discrete}
use lib.Dec.{leb, ltb, eqb}
use lib.ListN.{length, get_or}
use borrow.Author.Tests.{leb-true, leb-false, ltb-true, ltb-false, eqb-true, eqb-false, le-leb, lt-leb, lt-ltb, le-ltb}
use Rattle.base.proofs.TestLaws.{pick_true, pick_false, both_absurd, pick_cases, picked}
use Rattle.schedule.specs.declared.Job.{Job}
use Rattle.choice.specs.Choice.{works_fit, works_of, fits, keep_none, kept_ticks, discard_marks, kept_worth}
use Rattle.choice.specs.KeepLists.{ZeroKept}
use Rattle.schedule.specs.Jobs.{window_ticks}
use Rattle.choice.specs.Programme.{mandatory_sum, all_worth, if_room, keeping, row, greatest, backtrack}
use Rattle.choice.proofs.LexLaws.{LexAtMost}
use Rattle.choice.proofs.FitLaws.{fits_tail, fits_room, room_fits, none_worth}

-- a list that fits, keeps the worth v and keeps x ticks
pub record Keeps (worth : Job → ℕ) (jobs : List Job) (v x : ℕ) (keeps : List Bool) : Type 0 where
  pub fit : fits jobs keeps ≡ true
  pub value : kept_worth worth jobs keeps ≡ v
  pub ticks : kept_ticks jobs keeps ≡ x

module _ (huge : ℕ) where
  -- a number that the window has room for is not raised
  ifRoom-least : (mandatory window x y : ℕ) → x ≤ y → mandatory + y ≤ window → if_room huge mandatory window x ≤ y
  unfolding if_room
  ifRoom-least mandatory window x y l h =
      pick_cases (λ z. z ≤ y) (leb (mandatory + x) window) (λ t. l) (λ t. omega (arith, leb-false))

  -- the window has room for a number below huge
  within_is : (mandatory window x y : ℕ) → if_room huge mandatory window x ≡ y → y < huge → (mandatory + y ≤ window) × (x ≡ y)
  unfolding if_room
  within_is mandatory window x y e l =
      picked (λ z. z ≡ y) (leb (mandatory + x) window) e
      (λ t q. omega (arith, leb-true)) (λ t q. absurd (omega arith))

  -- what stands where the window has room, and where it has not
  pub if_room-fits : (mandatory window x : ℕ) → mandatory + x ≤ window → if_room huge mandatory window x ≡ x
  unfolding if_room
  if_room-fits mandatory window x l = pick_true _ _ _ (le-leb (mandatory + x) window l)

  pub if_room-over : (mandatory window x : ℕ) → window < mandatory + x → if_room huge mandatory window x ≡ huge
  unfolding if_room
  if_room-over mandatory window x l = pick_false _ _ _ (lt-leb (mandatory + x) window l)

  -- no number is above huge
  ifRoom-most : (mandatory window x : ℕ) → window ≤ huge → if_room huge mandatory window x ≤ huge
  unfolding if_room
  ifRoom-most mandatory window x l = pick_cases (λ z. z ≤ huge) (leb (mandatory + x) window) (λ t. omega (arith, leb-true)) (λ t. omega arith)

  -- the greatest where a row is below huge there, where it is not, and where there is none
  pub greatest_found : (r : ℕ → ℕ) (n : ℕ) → 0 < n → r n < huge → greatest huge r n ≡ n
  unfolding greatest
  greatest_found r zero l t = absurd (omega arith)
  greatest_found r (suc n) l t = pick_true _ _ _ (lt-ltb (r (suc n)) huge t)

  pub greatest_passed : (r : ℕ → ℕ) (n : ℕ) → 0 < n → huge ≤ r n → greatest huge r (n - 1) ≡ greatest huge r n
  unfolding greatest
  greatest_passed r zero l t = absurd (omega arith)
  greatest_passed r (suc n) l t =
      let e : suc n - 1 ≡ n = omega arith in
      rw (e, le-ltb (r (suc n)) huge t)

  pub greatest_none : (r : ℕ → ℕ) (n : ℕ) → n ≤ 0 → greatest huge r n ≡ 0
  unfolding greatest
  greatest_none r zero l = refl
  greatest_none r (suc n) l = absurd (omega arith)

  -- where a row is below huge at some v up to n, it is so at the greatest, which is at least v
  pub greatest_is : (r : ℕ → ℕ) (n v : ℕ) → v ≤ n → r v < huge → (r (greatest huge r n) < huge) × (v ≤ greatest huge r n)
  unfolding greatest
  greatest_is r zero v l t =
      let e : v ≡ 0 = omega arith in
      (rw e at t, l)
  greatest_is r (suc n) v l t =
      pick_cases (λ m. (r m < huge) × (v ≤ m)) (ltb (r (suc n)) huge)
      (λ s. (ltb-true (r (suc n)) huge s, l))
      (λ s.
      let d : v ≢ suc n = λ e. let u : r (suc n) < huge = rw e at t in omega (arith, ltb-false) in
      greatest_is r n v (omega arith) t)

  -- above the greatest a row is not below huge
  pub greatest_above : (r : ℕ → ℕ) (n v : ℕ) → greatest huge r n < v → v ≤ n → huge ≤ r v
  unfolding greatest
  greatest_above r zero v l m = absurd (omega arith)
  greatest_above r (suc n) v l m =
      picked (λ g. g < v) (ltb (r (suc n)) huge) l
      (λ t g. absurd (omega arith))
      (λ t g.
      elim (ℕ_discrete v (suc n)) [
        | yes e ↦ rw e (ltb-false (r (suc n)) huge t)
        | no e ↦ greatest_above r n v g (omega arith)
      ])

  -- the greatest is in its range
  pub greatest_most : (r : ℕ → ℕ) (n : ℕ) → greatest huge r n ≤ n
  unfolding greatest
  greatest_most r zero = omega arith
  greatest_most r (suc n) = pick_cases (λ m. m ≤ suc n) (ltb (r (suc n)) huge) (λ e. omega arith) (λ e. omega (arith, greatest_most r n))

  -- the place at which a row is below huge, and beyond which it is not, is the greatest
  pub greatest_only : (r : ℕ → ℕ) (n most : ℕ) → most ≤ n → r most < huge → ((v : ℕ) → most < v → v ≤ n → huge ≤ r v) → greatest huge r n ≡ most
  greatest_only r n most l b h =
      let g = greatest_is r n most l b in
      elim (dec_lt most (greatest huge r n)) [
        | yes m ↦ absurd (omega (arith, h (greatest huge r n) m (greatest_most r n)))
        | no m ↦ omega arith
      ]

  -- rows that agree up to n have the same greatest
  pub greatest_same : (f g : ℕ → ℕ) (n : ℕ) → ((k : ℕ) → k ≤ n → f k ≡ g k) → greatest huge f n ≡ greatest huge g n
  unfolding greatest
  greatest_same f g zero h = refl
  greatest_same f g (suc n) h = rw (h (suc n) (omega arith), greatest_same f g n (λ k l. h k (omega arith)))

  -- the same over a part of a list
  pub greatest_part : (f : ℕ → ℕ) (part : List ℕ) (n : ℕ) → length part ≡ n + 1 → ((k : ℕ) → k ≤ n → get_or part k 0 ≡ f k)
      → greatest huge (λ v. get_or part v 0) (length part - 1) ≡ greatest huge f n
  greatest_part f part n size h =
      let e : length part - 1 ≡ n = omega arith in
      rw e (greatest_same (λ v. get_or part v 0) f n h)

module _ (worth : Job → ℕ) (huge : ℕ) where
  -- at v the least ticks with the job kept, where its window is not yet looked at
  abbrev with-job : Job → List Job → ℕ → ℕ
  with-job job jobs v = keeping worth huge job (row worth huge jobs) v

  -- the same with the job kept or discarded
  abbrev either : Job → List Job → ℕ → ℕ
  either job jobs v = min (with-job job jobs v) (row worth huge jobs v)

  -- with the job kept, where its worth is at most v, and where it is more
  pub keeping_enough : (job : Job) (inner : ℕ → ℕ) (v : ℕ) → worth job ≤ v → keeping worth huge job inner v ≡ job.optional + inner (v - worth job)
  unfolding keeping
  keeping_enough job inner v l = pick_true _ _ _ (le-leb (worth job) v l)

  pub keeping_short : (job : Job) (inner : ℕ → ℕ) (v : ℕ) → v < worth job → keeping worth huge job inner v ≡ huge
  unfolding keeping
  keeping_short job inner v l = pick_false _ _ _ (lt-leb (worth job) v l)

  -- with the job kept there are no more ticks than its own and those of the jobs inside it
  keeping-least : (job : Job) (inner : ℕ → ℕ) (v x : ℕ) → inner v ≤ x → keeping worth huge job inner (worth job + v) ≤ job.optional + x
  unfolding keeping
  keeping-least job inner v x h =
      pick_cases (λ z. z ≤ job.optional + x) (leb (worth job) (worth job + v))
      (λ t. rw add-sub_cancel_left (omega arith)) (λ t. absurd (omega (arith, leb-false)))

  -- and no more than its own beyond huge
  pub keeping_most : (job : Job) (inner : ℕ → ℕ) (v : ℕ) → ((u : ℕ) → inner u ≤ huge) → keeping worth huge job inner v ≤ job.optional + huge
  unfolding keeping
  keeping_most job inner v h =
      let most = h (v - worth job) in
      pick_cases (λ z. z ≤ job.optional + huge) (leb (worth job) v) (λ t. omega arith) (λ t. omega arith)

  -- a number below huge is the ticks of the job and those of the jobs inside it
  pub keeping_is : (job : Job) (inner : ℕ → ℕ) (v x : ℕ) → keeping worth huge job inner v ≡ x → x < huge
      → (worth job ≤ v) × (job.optional ≤ x) × (inner (v - worth job) ≡ x - job.optional)
  unfolding keeping
  keeping_is job inner v x e l =
      picked (λ z. z ≡ x) (leb (worth job) v) e
      (λ t q. omega (arith, leb-true)) (λ t q. absurd (omega arith))

  -- the window has room for a number of the row below huge, and one of the two ways reaches it
  pub row_is : (job : Job) (jobs : List Job) (v x : ℕ) → row worth huge (job ∷ jobs) v ≡ x → x < huge
      → (mandatory_sum (job ∷ jobs) + x ≤ window_ticks job) × (either job jobs v ≡ x)
  unfolding row
  row_is job jobs v x e l = within_is huge (mandatory_sum (job ∷ jobs)) (window_ticks job) (either job jobs v) x e l

  -- no list that fits keeps fewer ticks than the row says at its worth
  pub row_least : (jobs : List Job) (keeps : List Bool) → fits jobs keeps ≡ true
      → row worth huge jobs (kept_worth worth jobs keeps) ≤ kept_ticks jobs keeps
  unfolding works_fit works_of row kept_worth
  row_least [] [] e = omega arith
  row_least [] (keep ∷ keeps) e = both_absurd false e refl
  row_least (job ∷ jobs) [] e = both_absurd false e refl
  row_least (job ∷ jobs) (true ∷ keeps) e =
      let inner = row_least jobs keeps (fits_tail job jobs true keeps e) in
      let h = keeping-least job (row worth huge jobs) (kept_worth worth jobs keeps) (kept_ticks jobs keeps) inner in
      ifRoom-least huge _ _ _ _ (omega arith) (fits_room job jobs true keeps e)
  row_least (job ∷ jobs) (false ∷ keeps) e =
      let inner = row_least jobs keeps (fits_tail job jobs false keeps e) in
      ifRoom-least huge _ _ _ _ (simp zero-add (omega arith)) (fits_room job jobs false keeps e)

  -- no worth takes no ticks, where the list that keeps nothing fits
  pub row_none : (jobs : List Job) → fits jobs (keep_none jobs) ≡ true → row worth huge jobs 0 ≡ 0
  row_none jobs none =
      let least = rw (none_worth worth jobs, none_worth (λ other. other.optional) jobs) at (row_least jobs (keep_none jobs) none) in
      omega arith

  -- no number of a row is above huge
  pub row_most : (job : Job) (jobs : List Job) (v : ℕ) → window_ticks job ≤ huge → row worth huge (job ∷ jobs) v ≤ huge
  unfolding row
  row_most job jobs v l = ifRoom-most huge (mandatory_sum (job ∷ jobs)) (window_ticks job) (either job jobs v) l

  -- beyond the greatest worth of a list of the jobs inside, and the job's own, a row is huge
  pub row_past : (job : Job) (jobs : List Job) (top v : ℕ) → window_ticks job < huge → ((u : ℕ) → top < u → row worth huge jobs u ≡ huge) → top + worth job < v
      → row worth huge (job ∷ jobs) v ≡ huge
  unfolding row
  row_past job jobs top v small beyond l =
      let kept = keeping_enough job (row worth huge jobs) v (omega arith) in
      if_room-over huge (mandatory_sum (job ∷ jobs)) (window_ticks job) (either job jobs v)
      (omega (arith, kept, beyond v (omega arith), beyond (v - worth job) (omega arith)))

  -- beyond the worth of all optional parts a row is huge
  pub row_beyond : (jobs : List Job) (v : ℕ) → all_worth worth jobs < v → row worth huge jobs v ≡ huge
  unfolding row if_room
  row_beyond [] zero l = absurd (omega arith)
  row_beyond [] (suc v) l = refl
  row_beyond (job ∷ jobs) v l =
      let kept = keeping_enough job (row worth huge jobs) v (omega arith) in
      let inner = row_beyond jobs (v - worth job) (omega arith) in
      let least : either job jobs v ≡ huge = omega (arith, row_beyond jobs v (omega arith)) in
      pick_cases (λ z. z ≡ huge) (leb (mandatory_sum (job ∷ jobs) + either job jobs v) (window_ticks job)) (λ t. least) (λ t. refl)

  -- so where it is below huge, the worth is no more than that
  pub row_below : (jobs : List Job) (v : ℕ) → row worth huge jobs v < huge → v ≤ all_worth worth jobs
  row_below jobs v l =
      elim (dec_lt (all_worth worth jobs) v) [
        | yes m ↦ absurd (omega (arith, row_beyond jobs v m))
        | no m ↦ omega arith
      ]

  -- the marks read back from a number of a row keep what it says
  pub backtrack_keeps : (jobs : List Job) (v x : ℕ) → row worth huge jobs v ≡ x → x < huge → Keeps worth jobs v x (backtrack worth huge jobs v x)
  unfolding row backtrack works_fit works_of kept_worth
  backtrack_keeps [] zero x e l = record { fit = refl; value = refl; ticks = e }
  backtrack_keeps [] (suc v) x e l = absurd (omega arith)
  backtrack_keeps (job ∷ jobs) v x e l =
      let a = row_is job jobs v x e l in
      pick_cases (Keeps worth (job ∷ jobs) v x) (eqb (with-job job jobs v) x)
      (λ t.
      let b = keeping_is job (row worth huge jobs) v x (eqb-true _ x t) l in
      let f = backtrack_keeps jobs (v - worth job) (x - job.optional) b.2 (omega arith) in
      record { fit = room_fits job jobs true _ f.fit (omega arith); value = omega arith; ticks = omega arith })
      (λ t.
      let f = backtrack_keeps jobs v x (omega (arith, eqb-false)) l in
      record { fit = room_fits job jobs false _ f.fit (omega arith); value = omega arith; ticks = omega arith })

  -- of the lists that keep as much they have the least marks: they keep at the outermost job where two differ
  pub backtrack_first : (jobs : List Job) (v x : ℕ) (keeps : List Bool) → row worth huge jobs v ≡ x → x < huge → Keeps worth jobs v x keeps
      → LexAtMost (discard_marks (backtrack worth huge jobs v x)) (discard_marks keeps)
  unfolding row backtrack works_fit works_of kept_worth LexAtMost
  backtrack_first [] v x keeps e l f = tt
  backtrack_first (job ∷ jobs) v x [] e l f = both_absurd false f.fit refl
  backtrack_first (job ∷ jobs) v x (true ∷ keeps) e l f =
      let a = row_is job jobs v x e l in
      let s = fits_tail job jobs true keeps f.fit in
      pick_cases (λ ls. LexAtMost (discard_marks ls) (discard_marks (true ∷ keeps))) (eqb (with-job job jobs v) x)
      (λ t.
      let b = keeping_is job (row worth huge jobs) v x (eqb-true _ x t) l in (
        omega arith,
        λ q. backtrack_first jobs (v - worth job) (x - job.optional) keeps b.2 (omega arith) (record { fit = s; value = omega arith; ticks = omega arith }),
      ))
      (λ t.
      let inner = row_least jobs keeps s in
      let h = rw f.value at (keeping-least job (row worth huge jobs) (kept_worth worth jobs keeps) (kept_ticks jobs keeps) inner) in
      absurd (omega (arith, eqb-false)))
  backtrack_first (job ∷ jobs) v x (false ∷ keeps) e l f =
      let a = row_is job jobs v x e l in
      let s = fits_tail job jobs false keeps f.fit in
      pick_cases (λ ls. LexAtMost (discard_marks ls) (discard_marks (false ∷ keeps))) (eqb (with-job job jobs v) x)
      (λ t. (omega arith, λ q. absurd (omega arith)))
      (λ t. (
        omega arith,
        λ q. backtrack_first jobs v x keeps (omega (arith, eqb-false)) l (record { fit = s; value = omega arith; ticks = omega arith }),
      ))

  -- an optional part of 0 ticks that is worth nothing is marked as kept
  pub backtrack_zero : ((job : Job) → job.optional ≡ 0 → worth job ≡ 0) → (jobs : List Job) (v x : ℕ) → row worth huge jobs v ≡ x → x < huge
      → ZeroKept jobs (backtrack worth huge jobs v x)
  unfolding row backtrack
  backtrack_zero free [] v x e l = tt
  backtrack_zero free (job ∷ jobs) v x e l =
      let a = row_is job jobs v x e l in
      pick_cases (ZeroKept (job ∷ jobs)) (eqb (with-job job jobs v) x)
      (λ t.
      let b = keeping_is job (row worth huge jobs) v x (eqb-true _ x t) l in
      (λ z. refl, backtrack_zero free jobs (v - worth job) (x - job.optional) b.2 (omega arith)))
      (λ t.
      let q : row worth huge jobs v ≡ x = omega (arith, eqb-false) in (
        λ z.
            let h = rw (free job z, zero-add) at (keeping-least job (row worth huge jobs) v x (omega arith)) in
            absurd (omega (arith, eqb-false)),
        backtrack_zero free jobs v x q l,
      ))
