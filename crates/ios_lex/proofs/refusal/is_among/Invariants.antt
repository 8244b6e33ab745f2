use Rattle.std.proofs.Common.{◌≡◌, drop}
use Rattle.ios_lex.specs.Refusal.{is_among, texts}
use Rattle.ios_lex.proofs.refusal.is_among.Given as goal

-- none of the texts so far is the word
abbrev pub invariant-loop-text : goal.invariant-loop-text
invariant-loop-text l = is_among (texts (drop l.text-index l.table)) l.word ≡ is_among (texts l.table) l.word
