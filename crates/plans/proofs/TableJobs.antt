-- The jobs of an accepted table in the order of its kind: a chain, or similar jobs.
use Prim.Native.Nat.{ℕ}
use Rattle.base.proofs.TestLaws.{cases}
use Rattle.table.specs.declared.Table.{Table}
use Rattle.table.specs.Kinds.{is_nested}
use Rattle.table.specs.Writing.{Legal}
use Rattle.orders.specs.KindOrder.{jobs_last_first}
use Rattle.orders.proofs.NestLaws.{nest_chain}
use Rattle.orders.proofs.SimilarLaws.{similar_jobs}
use Rattle.plans.specs.KindJobs.{JobsOfKind}

pub kind_jobs : (launch : ℕ) (t : Table) → Legal t → JobsOfKind (is_nested t) (jobs_last_first launch t)
kind_jobs launch t legal = cases (is_nested t) (λ e. rw e (nest_chain launch t legal e)) (λ e. rw e (similar_jobs launch t legal e))
