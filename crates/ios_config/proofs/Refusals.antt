-- Configurations that are refused.
use Rattle.std.proofs.Common.{◌≡◌, ℕ, List, [], ◌∷◌, ◌++◌, sym}
use Rattle.std.proofs.lemmas.List.{append-nil}
use Rattle.ios_lex.specs.Lines.{Reading, AreLines}
use Rattle.ios_lex.specs.RawLines.{raw_lines}
use Rattle.ios_lex.specs.declared.fault.LineFault.{LineFault}
use Rattle.ios_lex.specs.declared.fault.LineFault.TheVariants as lines
use Rattle.ios_lex.specs.declared.reason.IosReason.TheVariants as ios
use Rattle.ios_config.specs.declared.fault.ConfigFault.{ConfigFault}
use Rattle.ios_config.specs.declared.fault.ConfigFault.TheVariants as fault
use Rattle.ios_config.specs.Faults.{IsFault}
use Rattle.ios_config.specs.Reading.{AreTaken, IsRefused, Reads, TakesAll}
use Rattle.ios_config.specs.Reading as specs
use Rattle.ios_config.specs.Router.{Draft, Router, no_lines}
use Rattle.ios_config.specs.Taking.{IsDangling, IsLineFault, IsMade, IsWholeFault, StopsAmong, located}
use Rattle.ios_config.specs.Taking as taking
use Rattle.ios_config.proofs.OpenBanners.{OpensAt}

line_fault : (known : List (List ℕ)) (bytes : List ℕ) (front back : List (List ℕ)) (before after : List Reading) (line : Reading) (draft : Draft) (fault : LineFault)
    → raw_lines bytes ≡ front ++ back → AreLines 1 front (before ++ line ∷ after) → TakesAll (no_lines known) before draft → IsLineFault draft line fault
    → IsFault known bytes (located line.number fault)
line_fault known bytes front back before after line draft (lines.Refused why) whole are taken refused = specs.line front back before after line draft why whole are taken refused
line_fault known bytes front back before after line draft lines.NoMemory whole are taken refused = tt

pub front_fault : (known : List (List ℕ)) (bytes : List ℕ) (front back : List (List ℕ)) (readings : List Reading) (fault : ConfigFault) → raw_lines bytes ≡ front ++ back
    → AreLines 1 front readings → StopsAmong (no_lines known) readings fault → IsFault known bytes fault
front_fault known bytes front back readings fault whole are (taking.line before after line draft fault' split taken refused) =
    line_fault known bytes front back before after line draft fault' whole (rw split at are) taken refused

-- the refusal of a line is one of the whole
pub whole_fault : (known : List (List ℕ)) (bytes : List ℕ) (readings : List Reading) (fault : ConfigFault) → AreLines 1 (raw_lines bytes) readings
    → StopsAmong (no_lines known) readings fault → IsFault known bytes fault
whole_fault known bytes readings fault are stops =
    front_fault known bytes (raw_lines bytes) [] readings fault (sym (append-nil (raw_lines bytes))) are stops

-- where all lines before a banner without an end are taken, it is refused
pub banner_fault : (known : List (List ℕ)) (bytes : List ℕ) (at : ℕ) (readings : List Reading) (draft : Draft) (open_at : OpensAt 1 (raw_lines bytes) at)
    → AreLines 1 open_at.front readings → TakesAll (no_lines known) readings draft → IsFault known bytes (fault.At at ios.Unclosed)
banner_fault known bytes at readings draft open_at are taken =
    rw (sym open_at.long)
    (specs.open_banner open_at.front open_at.back readings open_at.line draft open_at.whole are taken open_at.open_ended)

-- a test of the whole
dangling_fault : (known : List (List ℕ)) (bytes : List ℕ) (draft : Draft) (fault : ConfigFault) → AreTaken known bytes draft → specs.route_faults draft ≡ []
    → IsDangling draft fault → IsFault known bytes fault
dangling_fault known bytes draft fault taken lead is = rw is.is (specs.dynamic draft is.at is.why is.more taken lead is.first)

pub finish_fault : (known : List (List ℕ)) (bytes : List ℕ) (draft : Draft) (fault : ConfigFault) → AreTaken known bytes draft → IsWholeFault draft fault → IsFault known bytes fault
finish_fault known bytes draft fault taken (IsWholeFault.route first more at why is refusal) = specs.route draft first more at why taken is refusal
finish_fault known bytes draft fault taken (IsWholeFault.dynamic fault' lead is) = dangling_fault known bytes draft fault' taken lead is
finish_fault known bytes draft fault taken IsWholeFault.memory = tt

pub made_reads : (known : List (List ℕ)) (bytes : List ℕ) (draft : Draft) (router : Router) → AreTaken known bytes draft → IsMade draft router → Reads known bytes router
made_reads known bytes draft router taken made = record { draft = draft; taken = taken; lead = made.lead; found = made.found; is = made.is }
