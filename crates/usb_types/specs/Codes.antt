-- Errnos and codes: their numbers, and their texts in a report.
use Rattle.std.specs.Prelude.{ℕ, List, ◌++◌, codes}
use Rattle.usb_types.specs.declared.errno.Errno.{Errno}
use Rattle.usb_types.specs.declared.errno.Errno.TheVariants.{EPERM, ENOENT, ENOEXEC, EAGAIN, ENOMEM, EBUSY, ENODEV, EINVAL, EPIPE, EIDRM, EBADR, EPROTO, EOVERFLOW, EMSGSIZE, ECONNRESET, ESHUTDOWN, EINPROGRESS, EREMOTEIO}
use Rattle.usb_types.specs.declared.errno.Code.{Code}
use Rattle.usb_types.specs.declared.errno.Code.TheVariants.{Zero, Fault}
use Rattle.usb_types.specs.declared.urb.Why.{Why}
use Rattle.usb_types.specs.declared.urb.Why.TheVariants.{Unlink, Kill, Shutdown}

-- the number of an errno, after Linux's `errno.h`
abbrev pub errno_number : Errno → ℕ
errno_number EPERM = 1
errno_number ENOENT = 2
errno_number ENOEXEC = 8
errno_number EAGAIN = 11
errno_number ENOMEM = 12
errno_number EBUSY = 16
errno_number ENODEV = 19
errno_number EINVAL = 22
errno_number EPIPE = 32
errno_number EIDRM = 43
errno_number EBADR = 53
errno_number EPROTO = 71
errno_number EOVERFLOW = 75
errno_number EMSGSIZE = 90
errno_number ECONNRESET = 104
errno_number ESHUTDOWN = 108
errno_number EINPROGRESS = 115
errno_number EREMOTEIO = 121

abbrev pub errno_name : Errno → List ℕ
errno_name EPERM = codes "EPERM"
errno_name ENOENT = codes "ENOENT"
errno_name ENOEXEC = codes "ENOEXEC"
errno_name EAGAIN = codes "EAGAIN"
errno_name ENOMEM = codes "ENOMEM"
errno_name EBUSY = codes "EBUSY"
errno_name ENODEV = codes "ENODEV"
errno_name EINVAL = codes "EINVAL"
errno_name EPIPE = codes "EPIPE"
errno_name EIDRM = codes "EIDRM"
errno_name EBADR = codes "EBADR"
errno_name EPROTO = codes "EPROTO"
errno_name EOVERFLOW = codes "EOVERFLOW"
errno_name EMSGSIZE = codes "EMSGSIZE"
errno_name ECONNRESET = codes "ECONNRESET"
errno_name ESHUTDOWN = codes "ESHUTDOWN"
errno_name EINPROGRESS = codes "EINPROGRESS"
errno_name EREMOTEIO = codes "EREMOTEIO"

-- `0`, or `-` and the errno's name
abbrev pub code_text : Code → List ℕ
code_text Zero = codes "0"
code_text (Fault e) = codes "-" ++ errno_name e

-- the status that an unlink, a kill or a shutdown gives an URB (the kernel's `urb.c` and `hcd.c`)
abbrev pub errno_of : Why → Errno
errno_of Unlink = ECONNRESET
errno_of Kill = ENOENT
errno_of Shutdown = ESHUTDOWN
