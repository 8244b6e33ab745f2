-- The parts of a line from whose words nothing goes on.
use Rattle.std.proofs.Common.{ℕ, Bool, ◌++◌, Option, subst, sym, ◌∙◌}
use Rattle.ios_lex.proofs.Stopping.{IsPrefixFree}
use Rattle.ios_lex.proofs.OneCut.{prefix_free_from_one, single_word_prefix_free}
use Rattle.ios_acl.specs.Grammar.{IsPlace, IsProto, ArePorts}
use Rattle.ios_acl.specs.Parts.{SomePlace, SomeProto, SomePort, SomePorts, SomePortsOf}
use Rattle.ios_acl.proofs.OnePart.{place_is_one, proto_is_one, ports_are_one}
use Rattle.ios_acl.proofs.OneEnd.{tcp_is_one}

pub port_prefix_free : (tcp b : Bool) → IsPrefixFree (SomePort tcp b)
port_prefix_free tcp b = single_word_prefix_free (SomePort tcp b) (λ words is. (is.1.0, is.1.1))

pub place_prefix_free : (b : Bool) → IsPrefixFree (SomePlace b)
place_prefix_free b = prefix_free_from_one IsPlace place_is_one

pub proto_prefix_free : (b : Bool) → IsPrefixFree (SomeProto b)
proto_prefix_free b = prefix_free_from_one IsProto proto_is_one

pub ports_prefix_free : (tcp b : Bool) → IsPrefixFree (SomePorts tcp b)
ports_prefix_free tcp b = prefix_free_from_one (ArePorts b tcp) (ports_are_one b tcp)

pub ports_of_prefix_free : (proto : Option ℕ) (b : Bool) → IsPrefixFree (SomePortsOf proto b)
ports_of_prefix_free proto b words more first second =
    let same = tcp_is_one second.0 first.0 (sym second.1 ∙ first.1) in
    ports_prefix_free first.0 b words more first.2 (subst (λ (tcp : Bool). SomePorts tcp b (words ++ more)) same second.2)
