use Rattle.af_collect.proofs.store.Store.close.Goals as goal

-- The release frees the files that the close has left to be freed.
pub returns-clause-settles : goal.returns-clause-settles
returns-clause-settles c = λ _. c.close_and_free.ensures.settles c.if-not-close_and_free.false c.release.new.self.world c.release.ensures.settles
