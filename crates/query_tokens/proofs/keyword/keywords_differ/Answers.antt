use Rattle.query_tokens.proofs.KeywordTable.{letters_differ}
use Rattle.query_tokens.proofs.keyword.keywords_differ.Goals as goal

pub returns : goal.returns
returns c = letters_differ
