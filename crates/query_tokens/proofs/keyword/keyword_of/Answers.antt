use Rattle.query_tokens.proofs.KeywordTable.{none_found}
use Rattle.query_tokens.proofs.keyword.keyword_of.Goals as goal

pub returns-clause-none : goal.returns-clause-none
returns-clause-none c = none_found c.args.word.now _ c.keyword_among.ensures.none
