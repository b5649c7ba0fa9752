use Rattle.clone_image.proofs.Images.{page_of-edited_same, page_of-edited_other}
use Rattle.clone_image.proofs.Pages.{records_pages, records_counts, records_whole, page_count-edited}
use Rattle.clone_image.proofs.laws.page_laws.Goals as goal

pub returns-clause-pages : goal.returns-clause-pages
returns-clause-pages c = records_pages

pub returns-clause-counts : goal.returns-clause-counts
returns-clause-counts c = records_counts

pub returns-clause-whole : goal.returns-clause-whole
returns-clause-whole c = records_whole

pub returns-clause-edited : goal.returns-clause-edited
returns-clause-edited c = page_of-edited_same

pub returns-clause-others : goal.returns-clause-others
returns-clause-others c = page_of-edited_other

pub returns-clause-edited_counts : goal.returns-clause-edited_counts
returns-clause-edited_counts c = page_count-edited
