use Rattle.clone_matched.proofs.MatchedLemmas.{matched}
use Rattle.clone_matched.proofs.laws.matched_laws.Goals as goal

pub returns : goal.returns
returns g c = λ first run parts empty legal made uses apart settled tells.
    matched record {
      ends = c.settled_laws.ensures.ends;
      unserved = c.settled_laws.ensures.unserved;
      apart = c.spelled_laws.ensures.apart;
    } g.N.End.Link g.N.Net first run parts record {
      empty = empty;
      legal = legal;
      made = made;
      uses = uses;
      apart = apart;
      settled = settled;
      tells = tells;
    }
