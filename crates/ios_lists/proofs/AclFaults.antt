-- The faults of a reason.
use Rattle.ios_lex.specs.declared.reason.IosReason.{IosReason}
use Rattle.ios_acl.specs.declared.fault.AclFault.{AclFault}
use Rattle.ios_acl.specs.declared.fault.AclFault.TheVariants as acl
use Rattle.ios_acl.specs.Faults.{IsFor}
use Rattle.ios_lists.specs.Faults.{IsAclFault}

-- a fault for the reason of a refusal is one
pub fault_for : (Refused : IosReason → Type 0) (why : IosReason) (fault : AclFault) → Refused why → IsFor why fault → IsAclFault Refused fault
fault_for Refused why (acl.Refused given) refused is = rw is refused
fault_for Refused why acl.NoMemory refused is = tt

pub fault_weaker : (Refused Other : IosReason → Type 0) (fault : AclFault) → ((why : IosReason) → Refused why → Other why) → IsAclFault Refused fault → IsAclFault Other fault
fault_weaker Refused Other (acl.Refused why) f h = f why h
fault_weaker Refused Other acl.NoMemory f h = tt
