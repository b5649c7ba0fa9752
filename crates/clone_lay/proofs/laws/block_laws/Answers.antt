use Rattle.clone_lay.proofs.BlockLemmas.{blocks_are_pages, blocks_change, blocks_more}
use Rattle.clone_lay.proofs.laws.block_laws.Goals as goal

pub returns : goal.returns
returns c = record {
  pages = λ m redo blocks blank within all. blocks_are_pages redo blocks m blank within all;
  others = λ m redo blocks. blocks_change redo blocks m;
  more = λ m redo blocks block. blocks_more redo blocks block m;
}
