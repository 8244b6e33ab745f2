-- What is handed out where a configuration is not read.
use Rattle.std.specs.Prelude.{ℕ, List}
use Rattle.ios_config.specs.declared.fault.ConfigFault.{ConfigFault}
use Rattle.ios_config.specs.declared.fault.ConfigFault.TheVariants as fault
use Rattle.ios_config.specs.Reading.{IsRefused}

-- the line is refused; memory may be wanting at any time
abbrev pub IsFault : List (List ℕ) → List ℕ → ConfigFault → Type 0
IsFault known bytes (fault.At line why) = IsRefused known bytes line why
IsFault known bytes fault.NoMemory = Unit {0}
