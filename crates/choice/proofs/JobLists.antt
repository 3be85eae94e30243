-- A list of jobs, or of marks, is what stands at its places.
use Prim.Native.Nat.{ℕ, ◌-◌, ◌≤◌}
use mathlib.Core.Path.{◌≡◌, refl, sym, subst⁻¹, ◌∙◌}
use mathlib.Core.List.{List}
use mathlib.Core.Bool.{true}
use lib.ListN.{length, get_or, take}
use lib.Seq.{get_or-take, length-take-le}
use Rattle.base.specs.Places.{places_from}
use Rattle.base.specs.Arrays.{first_places}
use Rattle.base.proofs.PlaceLaws.{places_is, left_start}
use Rattle.schedule.specs.declared.Job.{Job}
use Rattle.schedule.specs.JobArrays.{no_job}
use Rattle.choice.specs.Choice.{fits, keep_none}

-- at its first places, as many as it has
pub places_whole : {A : Type 0} (blank : A) (list : List A) → first_places blank list (length list) ≡ list
places_whole blank list = sym (places_is (λ k. get_or list k blank) (length list) blank list refl (λ k l. refl))

-- and so at as many
pub places_all : {A : Type 0} (blank : A) (list : List A) (n : ℕ) → length list ≡ n → first_places blank list n ≡ list
places_all blank list n e = rw (← e) (places_whole blank list)

-- from the first place on
pub left_whole : {A : Type 0} (blank : A) (list : List A) → places_from (λ k. get_or list k blank) 0 (length list - 0) ≡ list
left_whole blank list = left_start (λ k. get_or list k blank) (length list) ∙ places_whole blank list

-- the front of an array is what stands at its first places
pub front_places : {A : Type 0} (blank : A) (array : List A) (n : ℕ) → n ≤ length array → take n array ≡ first_places blank array n
front_places blank array n l =
    places_is (λ k. get_or array k blank) n blank (take n array) (length-take-le n array l) (λ k m. get_or-take n array k blank m)

-- what is so of a list is so of its places
pub at_places : {A : Type 0} (blank : A) (list : List A) (P : List A → Type 0) → P list → P (first_places blank list (length list))
at_places blank list P h = subst⁻¹ P (places_whole blank list) h

-- jobs that fit with nothing kept fit so at their places
pub none_at_places : (jobs : List Job) → fits jobs (keep_none jobs) ≡ true
    → fits (first_places no_job jobs (length jobs)) (keep_none (first_places no_job jobs (length jobs))) ≡ true
none_at_places jobs e = at_places no_job jobs (λ all. fits all (keep_none all) ≡ true) e
