use Rattle.std.proofs.Common.{◌∙◌, ap}
use Rattle.ios_lex.specs.declared.reason.IosReason.TheVariants as reasons
use Rattle.ios_lex.proofs.JoinedWords.{joined_texts}
use Rattle.ios_lex.proofs.openings.unmodelled_words.Goals as goal

pub returns : goal.returns
returns c = ap reasons.Unmodelled (c.in_ok-of.ensures ∙ c.as_bytes.ensures.value ∙ c.in_ok-text.ensures.ok ∙ joined_texts c.args.opening.now)
