-- What is handed out where a line is not taken.
use Rattle.ios_lex.specs.declared.reason.IosReason.{IosReason}
use Rattle.ios_acl.specs.declared.fault.AclFault.{AclFault}
use Rattle.ios_acl.specs.declared.fault.AclFault.TheVariants as acl

-- a fault is for a reason of this kind; memory may be wanting at any time
abbrev pub IsAclFault : (IosReason → Type 0) → AclFault → Type 0
IsAclFault Refused (acl.Refused why) = Refused why
IsAclFault Refused acl.NoMemory = Unit {0}
