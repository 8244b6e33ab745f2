use Rattle.ios_lex.proofs.OpeningWords.{opens_unindented, opens_words, words_open}
use Rattle.ios_lex.proofs.banner.opening_words.Goals as goal

pub returns : goal.returns
returns c = record { unindented = opens_unindented; three_words = opens_words; opens = words_open }
