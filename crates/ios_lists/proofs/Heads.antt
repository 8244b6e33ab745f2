-- Heads of blocks.
use Rattle.std.proofs.Common.{◌≡◌, ℕ, Bool, true, false, List, [], ◌∷◌, length, ◌==◌, arith}
use Rattle.std.proofs.lemmas.Bool.Decides.{nat_tests}
use Rattle.std.proofs.lemmas.List.{nil_from_length}
use Rattle.ios_lex.specs.declared.reason.IosReason.TheVariants as ios
use Rattle.ios_lex.specs.ListNames.{FitsName}
use Rattle.ios_lex.specs.Phrases.{Words}
use Rattle.ios_acl.specs.Block.{kind_word}
use Rattle.ios_acl.specs.List.{AccessList}
use Rattle.ios_lists.specs.Heads.{IsHead, OpensBlock, IsBlockRefused}
use Rattle.ios_lists.specs.Holding.{IsBegun}
use Rattle.ios_lists.specs.Lists.{FitsLists}

pub head_opens : (lists : List AccessList) (words : Words) (name : List ℕ) (extended : Bool) (new : List AccessList) (place : ℕ) → IsHead lists words name extended
    → IsBegun lists name extended new place → OpensBlock lists words new place
head_opens lists words name extended new place head begun = record { name = name; extended = extended; head = head; put = begun.put; at = begun.at }

pub more_words : (lists : List AccessList) (words more : Words) (extended : Bool) (name : List ℕ) → words ≡ kind_word extended ∷ name ∷ more → (length more == 0) ≡ false → FitsName name extended
    → FitsLists lists name extended → IsBlockRefused lists words ios.BadEntry
more_words lists words [] extended name whole some fits_name fits_lists = absurd (cc some)
more_words lists words (word ∷ rest) extended name whole some fits_name fits_lists = rw whole (IsBlockRefused.long extended name word rest fits_name fits_lists)

pub no_more : (more : Words) → (length more == 0) ≡ true → more ≡ []
no_more more none = nil_from_length more (grind (arith, nat_tests))
