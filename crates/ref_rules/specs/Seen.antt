-- The choices of the code as those of the definition.
use Rattle.reference_step.specs.Access.{Access, Hosted, Denied, Virtual}
use Rattle.reference_step.specs.Rules.{Denial, NotDenied, ByPolicy, ByRules, Errors, FilesystemErrors, SocketErrors, NoErrors}
use Rattle.ref_rules.specs.declared.access.Access.{Access as CodeAccess}
use Rattle.ref_rules.specs.declared.access.Access.TheVariants.{Hosted as Hosted', Denied as Denied', Virtual as Virtual'}
use Rattle.ref_rules.specs.declared.denial.Denial.{Denial as CodeDenial}
use Rattle.ref_rules.specs.declared.denial.Denial.TheVariants.{NotDenied as NotDenied', ByPolicy as ByPolicy', ByRules as ByRules'}
use Rattle.ref_rules.specs.declared.denial.Errors.{Errors as CodeErrors}
use Rattle.ref_rules.specs.declared.denial.Errors.TheVariants.{Filesystem, Sockets, None as NoErrors'}

abbrev pub access_of : CodeAccess → Access
access_of Hosted' = Hosted
access_of Denied' = Denied
access_of Virtual' = Virtual

abbrev pub denial_of : CodeDenial → Denial
denial_of NotDenied' = NotDenied
denial_of ByPolicy' = ByPolicy
denial_of ByRules' = ByRules

abbrev pub shown_errors : CodeErrors → Errors
shown_errors Filesystem = FilesystemErrors
shown_errors Sockets = SocketErrors
shown_errors NoErrors' = NoErrors
