use Rattle.trials_stores.proofs.Cuts.{write_cut, on_err_from}
use Rattle.trials_stores.proofs.mem_store.MemStoreStore.write_all.Goals as goal

pub returns-clause-err : goal.returns-clause-err
returns-clause-err c = on_err_from _ c.write.ensures.ok (λ no. record { here = rw (c.write.ensures.here) (write_cut _ _ _ _ no); others = c.write.ensures.others })
