-- The names of protocols, ports and ICMP messages in access lists (Cisco IOS command references).
use Rattle.std.specs.Prelude.{◌≡◌, ◌⊎◌, ℕ, Bool, cond, List, [], ◌∷◌, Option, Some, None, Contains, codes}
use Rattle.ios_lex.specs.Decimal.{IsNumber}

-- the names of protocols, and their numbers
unfoldable pub protocols : List (List ℕ × ℕ)
protocols =
    (codes "icmp", 1) ∷
    (codes "igmp", 2) ∷
    (codes "ipinip", 4) ∷
    (codes "tcp", 6) ∷
    (codes "udp", 17) ∷
    (codes "gre", 47) ∷
    (codes "esp", 50) ∷
    (codes "ahp", 51) ∷
    (codes "eigrp", 88) ∷
    (codes "ospf", 89) ∷
    (codes "pim", 103) ∷
    []

-- the names of TCP ports
unfoldable pub tcp_ports : List (List ℕ × ℕ)
tcp_ports =
    (codes "echo", 7) ∷
    (codes "discard", 9) ∷
    (codes "daytime", 13) ∷
    (codes "chargen", 19) ∷
    (codes "ftp-data", 20) ∷
    (codes "ftp", 21) ∷
    (codes "telnet", 23) ∷
    (codes "smtp", 25) ∷
    (codes "time", 37) ∷
    (codes "whois", 43) ∷
    (codes "tacacs", 49) ∷
    (codes "domain", 53) ∷
    (codes "gopher", 70) ∷
    (codes "finger", 79) ∷
    (codes "www", 80) ∷
    (codes "hostname", 101) ∷
    (codes "pop2", 109) ∷
    (codes "pop3", 110) ∷
    (codes "sunrpc", 111) ∷
    (codes "ident", 113) ∷
    (codes "nntp", 119) ∷
    (codes "bgp", 179) ∷
    (codes "irc", 194) ∷
    (codes "exec", 512) ∷
    (codes "login", 513) ∷
    (codes "cmd", 514) ∷
    (codes "lpd", 515) ∷
    (codes "talk", 517) ∷
    (codes "uucp", 540) ∷
    (codes "klogin", 543) ∷
    (codes "kshell", 544) ∷
    []

-- the names of UDP ports
unfoldable pub udp_ports : List (List ℕ × ℕ)
udp_ports =
    (codes "echo", 7) ∷
    (codes "discard", 9) ∷
    (codes "time", 37) ∷
    (codes "nameserver", 42) ∷
    (codes "tacacs", 49) ∷
    (codes "domain", 53) ∷
    (codes "bootps", 67) ∷
    (codes "bootpc", 68) ∷
    (codes "tftp", 69) ∷
    (codes "sunrpc", 111) ∷
    (codes "ntp", 123) ∷
    (codes "netbios-ns", 137) ∷
    (codes "netbios-dgm", 138) ∷
    (codes "netbios-ss", 139) ∷
    (codes "snmp", 161) ∷
    (codes "snmptrap", 162) ∷
    (codes "xdmcp", 177) ∷
    (codes "mobile-ip", 434) ∷
    (codes "isakmp", 500) ∷
    (codes "biff", 512) ∷
    (codes "who", 513) ∷
    (codes "syslog", 514) ∷
    (codes "talk", 517) ∷
    (codes "rip", 520) ∷
    (codes "non500-isakmp", 4500) ∷
    []

-- the names of ICMP messages: the type, and the code where the name says one
unfoldable pub icmp_messages : List (List ℕ × (ℕ × Option ℕ))
icmp_messages =
    (codes "echo-reply", (0, None)) ∷
    (codes "unreachable", (3, None)) ∷
    (codes "net-unreachable", (3, Some 0)) ∷
    (codes "host-unreachable", (3, Some 1)) ∷
    (codes "port-unreachable", (3, Some 3)) ∷
    (codes "packet-too-big", (3, Some 4)) ∷
    (codes "administratively-prohibited", (3, Some 13)) ∷
    (codes "source-quench", (4, None)) ∷
    (codes "redirect", (5, None)) ∷
    (codes "echo", (8, None)) ∷
    (codes "time-exceeded", (11, None)) ∷
    (codes "ttl-exceeded", (11, Some 0)) ∷
    (codes "parameter-problem", (12, None)) ∷
    (codes "protocol-unreachable", (3, Some 2)) ∷
    (codes "net-redirect", (5, Some 0)) ∷
    (codes "host-redirect", (5, Some 1)) ∷
    (codes "router-advertisement", (9, None)) ∷
    (codes "router-solicitation", (10, None)) ∷
    (codes "reassembly-timeout", (11, Some 1)) ∷
    (codes "timestamp-request", (13, None)) ∷
    (codes "timestamp-reply", (14, None)) ∷
    (codes "mask-request", (17, None)) ∷
    (codes "mask-reply", (18, None)) ∷
    (codes "traceroute", (30, None)) ∷
    []

-- a protocol is named by the table, or is a number of 8 bits
abbrev pub IsProtocol : List ℕ → ℕ → Type 0
IsProtocol word n = Contains protocols (word, n) ⊎ IsNumber 255 word n

-- a port of TCP, or else of UDP, is named by the table of its protocol, or is a number of 16 bits
abbrev pub IsPort : Bool → List ℕ → ℕ → Type 0
IsPort tcp word n = Contains (cond tcp tcp_ports udp_ports) (word, n) ⊎ IsNumber 65535 word n

-- the type of an ICMP message is a number of 8 bits, and says no code
abbrev pub IsType : List ℕ → ℕ × Option ℕ → Type 0
IsType word message = IsNumber 255 word message.0 × (message.1 ≡ None)

-- an ICMP message is named by the table, or is the number of its type
abbrev pub IsMessage : List ℕ → ℕ × Option ℕ → Type 0
IsMessage word message = Contains icmp_messages (word, message) ⊎ IsType word message

-- the word is the name of a message, and no number
abbrev pub IsMessageName : List ℕ → Type 0
IsMessageName word = (message : ℕ × Option ℕ) × Contains icmp_messages (word, message)
