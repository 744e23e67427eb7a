-- `packing::pack` meets its contract: each job of the pass has room, and goes on from where the jobs before it stand. Assumes nothing.
use native.Mathlib.Omega.{arith}
use borrow.Author.Rules.{rules}
use Rattle.std.proofs.lemmas.List.{length_push}
use Rattle.columns.proofs.packing.Paired.{paired, paired-end}
use Rattle.columns.proofs.packing.Filling.{share-within, pass-asks, pass_on, pass-ends}
use Rattle.columns.proofs.packing.pack.Goals as goal

pub put_job-p-requires : goal.put_job-p-requires
put_job-p-requires c =
    let a = c.args in
    let x = c.loop-job in
    let t = paired a.mine.now a.other.now c.requires.sized.same x.yielded c.into_iter-job-iterator.result x.job-iterator c.next.new.self (cc) (cc) (cc) x.yielded_by c.next.result c.next.ensures.steps _ c.in-Some.is in (
      omega arith,
      omega (arith, share-within a.class a.kind a.w a.mine.now a.other.now _ t.0 c.requires.sized),
      rw (t.1, t.2, t.3) (pass-asks a.class a.kind a.w a.mine.now a.other.now _ t.0 x.invariant.1),
    )

pub loop-job-preserved : goal.loop-job-preserved
loop-job-preserved c =
    let a = c.args in
    let x = c.loop-job in
    let t = paired a.mine.now a.other.now c.requires.sized.same x.yielded c.into_iter-job-iterator.result x.job-iterator c.next.new.self (cc) (cc) (cc) x.yielded_by c.next.result c.next.ensures.steps _ c.in-Some.is in
    let put = rw (t.1, t.2, t.3) at c.put_job-p.ensures in (
      search rules,
      rw (length_push x.yielded _)
          (pass_on a.class a.kind a.w a.mine.now a.other.now _ t.0 x.invariant.1 _ _ (search rules) put),
    )

pub returns : goal.returns
returns c =
    let a = c.args in
    let x = c.loop-job in
    let end = paired-end a.mine.now a.other.now c.requires.sized.same x.yielded c.into_iter-job-iterator.result x.job-iterator c.next.new.self (cc) (cc) (cc) x.yielded_by c.next.result c.next.ensures.steps c.in-None.is in
    pass-ends a.class a.kind a.w a.mine.now a.other.now (rw end at x.invariant.1)
