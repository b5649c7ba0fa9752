use Rattle.clone_turn.proofs.SeatShareLemmas.{first_shares, joined_shares, moved_shares, only_share, split_shares, worked_shares}
use Rattle.clone_turn.proofs.laws.share_laws.Goals as goal

pub returns-clause-first : goal.returns-clause-first
returns-clause-first g c = first_shares

pub returns-clause-split : goal.returns-clause-split
returns-clause-split g c = split_shares

pub returns-clause-moved : goal.returns-clause-moved
returns-clause-moved g c = moved_shares

pub returns-clause-worked : goal.returns-clause-worked
returns-clause-worked g c = worked_shares

pub returns-clause-joined : goal.returns-clause-joined
returns-clause-joined g c = joined_shares

pub returns-clause-whole : goal.returns-clause-whole
returns-clause-whole g c = only_share
