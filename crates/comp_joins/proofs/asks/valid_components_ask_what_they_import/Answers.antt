use Rattle.comp_joins.proofs.Imported.{ask_entries, drop_imported}
use Rattle.comp_joins.proofs.asks.valid_components_ask_what_they_import.Goals as goal

pub returns-clause-calls : goal.returns-clause-calls
returns-clause-calls c = ask_entries

pub returns-clause-drops : goal.returns-clause-drops
returns-clause-drops c = drop_imported
