use Rattle.toml_size.proofs.Documents.{document_size}
use Rattle.toml_size.proofs.documents_are_no_longer.Goals as goal

pub returns : goal.returns
returns c = document_size
