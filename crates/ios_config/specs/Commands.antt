-- The lines outside blocks, by the words that they begin with (Cisco IOS command references).
use Rattle.std.specs.Prelude.{List, [], ◌∷◌, codes}
use Rattle.ios_lex.specs.Openings.{BeginsAmong}
use Rattle.ios_lex.specs.Phrases.{Words}
use Rattle.ios_config.specs.declared.command.Command.{Command}
use Rattle.ios_config.specs.declared.command.Command.TheVariants as commands

-- the words that lines of a modelled command begin with
abbrev pub opening_words : Command → Words
opening_words commands.NumberedList = codes "access-list" ∷ []
opening_words commands.ListBlock = codes "ip" ∷ codes "access-list" ∷ []
opening_words commands.InterfaceBlock = codes "interface" ∷ []
opening_words commands.Route = codes "ip" ∷ codes "route" ∷ []
opening_words commands.Pool = codes "ip" ∷ codes "nat" ∷ codes "pool" ∷ []
opening_words commands.Source = codes "ip" ∷ codes "nat" ∷ codes "inside" ∷ codes "source" ∷ []

-- the words of lines that change forwarding in a way that is not modelled
abbrev pub unmodelled_openings : List Words
unmodelled_openings =
    (codes "router" ∷ []) ∷
    (codes "ip" ∷ codes "vrf" ∷ []) ∷
    (codes "vrf" ∷ []) ∷
    (codes "no" ∷ codes "ip" ∷ codes "routing" ∷ []) ∷
    (codes "ip" ∷ codes "nat" ∷ codes "outside" ∷ codes "source" ∷ []) ∷
    (codes "ip" ∷ codes "nat" ∷ codes "inside" ∷ codes "destination" ∷ []) ∷
    []

-- the line begins with these words, and is not modelled
abbrev pub IsUnmodelled : Words → Words → Type 0
IsUnmodelled = BeginsAmong unmodelled_openings
